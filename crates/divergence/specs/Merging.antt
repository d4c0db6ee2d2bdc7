-- The code's merge: what is left of it, a child of it, and what its passes make of it. Assumes nothing.
use Rattle.std.specs.Prelude.{ℕ, List, length}
use Rattle.priors.specs.Rows.{Row, row}
use Rattle.priors.specs.Priors.{Counts, count_sum}
use Rattle.divergence.specs.declared.probabilities.Merge.{Merge}
use Rattle.divergence.specs.declared.probabilities.Merged.{Merged}
use Rattle.divergence.specs.declared.probabilities.Size.{Size}
use Rattle.divergence.specs.Merge.{merged_from}

abbrev pub children_left : Merge → List Row
children_left m = merged_from m.children.now m.link m.entries.bytes.now m.at m.entries.used

-- an ending's count with them
abbrev pub counts_left : ℕ → Merge → Counts
counts_left ending m = record { ending = ending; children = children_left m }

-- a child of it
abbrev pub merged_row : Merged → Row
merged_row m = row m.rank m.count

-- how many children there are, and the sum of their counts
abbrev pub size_of : List Row → Size
size_of rs = record { places = length rs; sum = count_sum rs }
