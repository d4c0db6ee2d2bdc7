-- The look-up of a child in its node's prior: the child's count, and how many records of the chain it read. What 3 to 7 and 22 read before it is not counted.
-- Assumes nothing.
use Rattle.std.specs.Prelude.{ℕ, ◌+◌, ◌≤◌, ◌≡◌, cond, List, [], ◌∷◌, ltb, ℤ, length, take}
use Rattle.std.specs.Prelude.{Option, None, Some}
use Rattle.priors.specs.Limits.{max_chain}
use Rattle.priors.specs.Reading.{Reading, refused, nothing, answered, unless}
use Rattle.priors.specs.Rows.{Row, count_of}
use Rattle.priors.specs.Priors.{LentPriors, lent_priors, layer_of, Counts, records, find_record, children_of, prior_of, priors_refusal}
use Rattle.priors.specs.declared.records.Record.{Record}

-- how many records of a chain are below the address wanted
unfoldable pub below_in : (wanted : ℕ) → List Row → ℕ
below_in wanted [] = 0
below_in wanted (r ∷ rs) = cond (ltb r.key wanted) 1 0 + below_in wanted rs

-- how many of them the look-up reads: exactly those below the address wanted, and one more if the chain goes on
unfoldable pub reads_of : (wanted : ℕ) → List Row → ℕ
reads_of wanted rs = below_in wanted rs + cond (ltb (below_in wanted rs) (length rs)) 1 0

-- what the look-up tells: the child's count, if the prior has this child, and the number read
pub record ChildLook : Type 0 where
  pub count : Option ℕ
  pub read : ℕ

-- in a node's prior; where the node has none, there is no chain to read
abbrev pub look_in : (wanted : ℕ) → Option Counts → ChildLook
look_in wanted None = record { count = None; read = 0 }
look_in wanted (Some p) = record { count = count_of wanted p.children; read = reads_of wanted p.children }

-- the child `wanted` of the node with the address `rank`, in lent priors: 3 to 7 and 22 first
abbrev pub child_asked : LentPriors → (rank wanted : ℕ) → Reading ChildLook
child_asked p rank wanted =
    unless (priors_refusal p.nodes p.children (layer_of p.floor)) (answered (look_in wanted (prior_of p.nodes p.children (layer_of p.floor) rank)))

-- its count as an answer: none where there is no such child
abbrev pub count_told : Reading ChildLook → Reading ℕ
count_told (refused n node) = refused n node
count_told nothing = nothing
count_told (answered l) = told l.count
  where
    told : Option ℕ → Reading ℕ
    told None = nothing
    told (Some c) = answered c

-- ---- what follows

-- the number read is at most 64
abbrev pub ReadsAtMost : Type 0
ReadsAtMost =
    (p : LentPriors) (rank wanted : ℕ) (l : ChildLook) → child_asked p rank wanted ≡ answered l → l.read ≤ max_chain

-- a chain has the addresses and counts of another as far as that one is read, and ends where that one does if all of that are below the address wanted
abbrev pub SameAsRead : (wanted : ℕ) → List Row → List Row → Type 0
SameAsRead wanted read other = (take (reads_of wanted read) read ≡ take (reads_of wanted read) other) × (below_in wanted read ≡ length read → length other ≡ length read)

-- nothing past the records read decides: where two tables of child records pass 3 to 7 and 22, and the chain of the node in the second is that in the first as far
-- as this is read, the child wanted has the same count and the same number read in both
abbrev pub NothingPast : Type 0
NothingPast =
    (nodes children others : List ℕ) (floor : ℤ) (rank wanted : ℕ)
    → priors_refusal nodes children (layer_of floor) ≡ 0
    → priors_refusal nodes others (layer_of floor) ≡ 0
    → ((node : Record) → find_record (layer_of floor) rank (records nodes) ≡ Some node → SameAsRead wanted (children_of children node.link) (children_of others node.link))
    → child_asked (lent_priors nodes children floor) rank wanted ≡ child_asked (lent_priors nodes others floor) rank wanted
