-- A book's rows as nodes: each ending lists a node, and the children after it are its own. Assumes nothing.
use Rattle.std.specs.Prelude.{ℕ, cond, List, [], ◌∷◌, ◌==◌}
use Rattle.std.specs.Prelude.{Option, None, Some}
use Rattle.priors.specs.Rows.{Row, row}
use Rattle.priors.specs.Priors.{Counts}
use Rattle.entries.specs.Keys.{node_of, kind_of, child_of}

-- a listed node: its address, by rank, and its evidence
pub record Node : Type 0 where
  pub address : ℕ
  pub evidence : Counts

-- a child's row under its node: its address and its count
abbrev pub child_row : Row → Row
child_row r = row (child_of r.key) r.count

-- the children at the front, which belong to an ending before these rows, and the nodes after them. Where the form holds the first row is an ending and each
-- child has the node of the ending before it
unfoldable pub spread : List Row → List Row × List Node
spread [] = ([], [])
spread (r ∷ rs) =
    let rest = spread rs in
    cond (kind_of r.key == 0)
    ([], record { address = node_of r.key; evidence = record { ending = r.count; children = rest.0 } } ∷ rest.1)
    (child_row r ∷ rest.0, rest.1)

-- the listed nodes, in the order of the rows
unfoldable pub listed_nodes : List Row → List Node
listed_nodes rs = (spread rs).1

-- the evidence of an address, if it is listed
unfoldable pub evidence_of : ℕ → List Node → Option Counts
evidence_of a [] = None
evidence_of a (n ∷ ns) = cond (n.address == a) (Some n.evidence) (evidence_of a ns)
