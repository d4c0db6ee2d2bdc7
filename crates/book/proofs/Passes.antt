-- Definitions that only proofs need: what is found of a listed key; the path that leaves, told from H alone; an add in one pass over a path; what an add would bring
-- in; the form of a listing's keys. Assumes nothing.
use Prim.Native.Nat.{ℕ, zero, suc, ◌+◌, ◌-◌, ◌<◌}
use mathlib.Core.Path.{◌≡◌}
use mathlib.Core.Logic.{◌⊎◌}
use mathlib.Core.List.{List, [], ◌∷◌, ◌++◌}
use Rattle.std.specs.Prelude.{Option, None, Some}
use mathlib.Core.Bool.{cond}
use lib.Dec.{leb}
use lib.ListN.{length, get_or}
use Rattle.priors.specs.Rows.{Row, look, touch, bump}
use Rattle.entries.specs.Keys.{end_key, child_key, node_of}
use Rattle.book.specs.Path.{Steps}
use Rattle.book.specs.Recount.{occurrences}

-- what is found of a key that is listed n times: its count c, if n is not 0
abbrev pub found : ℕ → ℕ → Option ℕ
found zero c = None
found (suc n) c = Some c

-- the path that leaves the window of W where one more path joins H: the oldest of the last W, if there are W
unfoldable pub leaving_path : ℕ → List Steps → Option Steps
leaving_path zero H = None
leaving_path (suc w) H = cond (leb (suc w) (length H)) (Some (get_or H (length H - suc w) [])) None

-- what a path lists and counts, in one pass over it
unfoldable pub one_pass : Steps → List Row → List Row
one_pass [] rs = rs
one_pass (a ∷ []) rs = bump (end_key a) rs
one_pass (a ∷ b ∷ p) rs = one_pass (b ∷ p) (bump (child_key a b) (touch (end_key a) rs))

-- ---- what would come in

-- 1 for a key with no row that stands for the first time
abbrev pub first : Option ℕ → ℕ → ℕ
first None zero = 1
first None (suc n) = 0
first (Some c) n = 0

-- how many rows touching the keys ks would bring in after the keys `seen`, told from the rows as they are
unfoldable pub missing : List Row → List ℕ → List ℕ → ℕ
missing rs seen [] = 0
missing rs seen (k ∷ ks) = first (look k rs) (occurrences k seen) + missing rs (seen ++ k ∷ []) ks

-- ---- the form of keys

-- after the key a: they ascend, and where the node is another it begins with its ending
abbrev pub FormedAfter : ℕ → List ℕ → Type 0
FormedAfter a [] = Unit {0}
FormedAfter a (k ∷ ks) = (a < k) × ((node_of a ≡ node_of k) ⊎ (k ≡ end_key (node_of k))) × FormedAfter k ks

-- the first is an ending, and so is the first of every node
abbrev pub Formed : List ℕ → Type 0
Formed [] = Unit {0}
Formed (k ∷ ks) = (k ≡ end_key (node_of k)) × FormedAfter k ks
