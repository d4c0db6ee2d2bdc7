-- Read in this order: `Numbers` has floats by short names; `Nodes` reads a book's rows as nodes with their evidence, `Parts` a part of the book; `Probability` and `Divergence` are the
-- formulas, `Merge` and `Merging` what a pass over prior and evidence is held to, `Listing` what the code's listed nodes stand for, `Fits` what a node is tested for; `Statistics` is what
-- `kl_div_stats` makes of the divergences; `Readings` says what each reading answers and leaves in the lent outputs, `Asked` what it is of a lent tracker, `Checks` the checks before it, `Fillings` what a walk fills;
-- `Answers` what the answers of the code stand for. `RecountNodes` has the recount's own lists, and `Claims` the claim over every list of calls.
pub mod Numbers
pub mod Nodes
pub mod Parts
pub mod Probability
pub mod Merge
pub mod Merging
pub mod Listing
pub mod Divergence
pub mod Fits
pub mod Statistics
pub mod Readings
pub mod Asked
pub mod Checks
pub mod Fillings
pub mod Answers
pub mod RecountNodes
pub mod Claims
-- what follows from the claim, without the recount:
pub mod Corollaries
-- that the readings tell what goko's methods give on f64 counts:
pub mod GokoFloats
-- what equality of figures is, and that no reading tells minus zero:
pub mod Zeros
