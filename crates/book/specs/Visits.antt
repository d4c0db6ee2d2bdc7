-- Visits: how often the paths of the window part come to a node, told from the paths alone; and a node's evidence total, told from the rows of a book alone.
-- `Told` (Corollaries) says that they are equal. Assumes nothing.
use Rattle.std.specs.Prelude.{ℕ, ◌+◌, List, [], ◌∷◌, cond, eqb}
use Rattle.priors.specs.Rows.{Row}
use Rattle.entries.specs.Keys.{node_of}
use Rattle.book.specs.Path.{Steps}
use Rattle.book.specs.Recount.{window_part}
use Rattle.book.specs.Figures.{total}

-- how often a stands in a path as a child: right after a step, a itself or another
unfoldable pub arrivals : ℕ → Steps → ℕ
arrivals a [] = 0
arrivals a (x ∷ []) = 0
arrivals a (x ∷ y ∷ p) = cond (eqb a y) 1 0 + arrivals a (y ∷ p)

-- 1 if the path begins at a
unfoldable pub beginnings : ℕ → Steps → ℕ
beginnings a [] = 0
beginnings a (x ∷ p) = cond (eqb a x) 1 0

-- the visits of a: its appearances as a child in the window part, and the window paths that begin at it
unfoldable pub visits : ℕ → List Steps → ℕ → ℕ
visits W H a = total (arrivals a) (window_part W H) + total (beginnings a) (window_part W H)

-- the evidence total of a: the counts of its rows together, its ending and its children
unfoldable pub evidence_total : ℕ → List Row → ℕ
evidence_total a [] = 0
evidence_total a (r ∷ rs) = cond (eqb a (node_of r.key)) r.count 0 + evidence_total a rs
