-- A merge of a prior's chain with a node's entries, the children that both list in one ascending pass: what is left of it. Assumes nothing.
use Rattle.std.specs.Prelude.{ℕ, List, map}
use Rattle.priors.specs.Rows.{Row}
use Rattle.priors.specs.Priors.{children_of}
use Rattle.divergence.specs.Nodes.{child_row}
use Rattle.divergence.specs.Parts.{part}
use Rattle.divergence.specs.Probability.{with_evidence}

-- the children in the book's entries from the place `at` up to `end`
abbrev pub child_entries : List ℕ → ℕ → ℕ → List Row
child_entries book at end = map child_row (part book at end)

-- the chain that a link starts, with those entries added to it
unfoldable pub merged_from : List ℕ → ℕ → List ℕ → ℕ → ℕ → List Row
merged_from children link book at end = with_evidence (child_entries book at end) (children_of children link)
