-- A part of a book's entries: those from one place up to another; the children at the front of rows, and the node whose ending stands at a place. Assumes nothing.
use Rattle.std.specs.Prelude.{ℕ, suc, ◌+◌, ◌-◌, ◌*◌, cond, List, [], ◌∷◌, map, drop, ◌==◌}
use Rattle.priors.specs.Rows.{Row}
use Rattle.priors.specs.Priors.{Counts}
use Rattle.entries.specs.Limits.{entry_size}
use Rattle.entries.specs.Keys.{node_of, kind_of}
use Rattle.entries.specs.Entries.{row_at, rows, entry_count_at}
use Rattle.divergence.specs.Nodes.{Node, child_row, listed_nodes}

-- the entries from the place `from` up to the place `to`
abbrev pub part : List ℕ → ℕ → ℕ → List Row
part book from to = rows (drop (entry_size * from) book) (to - from)

-- how many children stand before the first ending
unfoldable pub leading : List Row → ℕ
leading [] = 0
leading (r ∷ rs) = cond (kind_of r.key == 0) 0 (suc (leading rs))

-- the node of the entry at the place i, by rank
abbrev pub node_at : List ℕ → ℕ → ℕ
node_at book i = node_of (row_at book (entry_size * i)).key

-- the evidence of the node whose ending stands at the place i and whose children end before the place `to`
abbrev pub evidence_at : List ℕ → ℕ → ℕ → Counts
evidence_at book i to = record { ending = entry_count_at book i; children = map child_row (part book (i + 1) to) }

-- the nodes listed from the place i on
abbrev pub nodes_from : List ℕ → ℕ → ℕ → List Node
nodes_from book i used = listed_nodes (part book i used)
