-- `NodeLaws` has the laws of a book's entries as nodes, `SumLaws` those of a node's children and their terms, `FitLaws` those of the tests of a node, `WalkLaws` those
-- of a walk from node to node.
pub mod NodeLaws
pub mod SumLaws
pub mod FitLaws
pub mod WalkLaws
-- `MergeLaws` has what a merge of prior and evidence goes by, `OutputLaws` what filling an output place by place leaves.
pub mod MergeLaws
pub mod OutputLaws
-- `Exact` has whole numbers as floats and their sums, `Constants` what the constants are.
pub mod Exact
pub mod Constants
-- `ListedLaws` has the look-up of one listed node.
pub mod ListedLaws
-- `CheckLaws` has what the checks before a reading tell, `FillLaws` the passes that fill an output with all nodes, `VectorLaws` the cases of the readings of
-- probabilities.
pub mod CheckLaws
pub mod FillLaws
pub mod VectorLaws
-- The recount's nodes: the listing node by node (`AscentLaws`), that they are what the rows are read as (`RecountNodeLaws`), and that their totals are visits
-- (`VisitedNodes`).
pub mod AscentLaws
pub mod RecountNodeLaws
pub mod VisitedNodes
-- the claim over lists of calls, and what follows from it:
pub mod Claimed
pub mod NumberLaws
pub mod Corollaries
-- `IndexZero` has that no reading reads index 0 of a table.
pub mod IndexZero
-- goko's methods on f64 counts give what the readings tell:
pub mod GokoLaws
pub mod GokoReadings
-- the sign of zero in IEEE 754's steps, and that no reading tells minus zero:
pub mod SignLaws
pub mod Zeros
