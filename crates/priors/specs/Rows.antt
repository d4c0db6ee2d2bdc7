-- Rows: a list of (key, count) whose keys ascend strictly; the look-up of a key, and the changes of one key's row. There is one change, and touching, counting one
-- more and counting one less are three cases of it. Assumes nothing.
use Prim.Native.Nat.{ℕ, suc, ◌+◌, ◌-◌, ◌≤◌, compare, Ordering}
use Rattle.std.specs.Prelude.{cond, List, [], ◌∷◌, map, eqb}
use Rattle.std.specs.Prelude.{Option, None, Some}

pub record Row : Type 0 where
  pub key : ℕ
  pub count : ℕ

abbrev pub row : ℕ → ℕ → Row
row k c = record { key = k; count = c }

abbrev pub keys : List Row → List ℕ
keys rs = map (λ (r : Row). r.key) rs

-- the keys ascend strictly, and none is below a; `Ascends 0` is the ascent alone
abbrev pub Ascends : ℕ → List ℕ → Type 0
Ascends a [] = Unit {0}
Ascends a (k ∷ ks) = (a ≤ k) × Ascends (suc k) ks

-- one of three, by an order
abbrev pub choose {ℓ} : {X : Type ℓ} → Ordering → X → X → X → X
choose Ordering.lt x y z = x
choose Ordering.eq x y z = y
choose Ordering.gt x y z = z

-- the count of the row with the key k, if there is one: a look-up by exact key, in whatever order the rows stand
unfoldable pub count_of : ℕ → List Row → Option ℕ
count_of k [] = None
count_of k (r ∷ rs) = cond (eqb r.key k) (Some r.count) (count_of k rs)

-- the same as a search of ascending rows finds it, which ends at the first row that is not below k. Where rows ascend it is `count_of` (`look_exact` of
-- proofs/Exactly.antt)
unfoldable pub look : ℕ → List Row → Option ℕ
look k [] = None
look k (r ∷ rs) = choose (compare k r.key) None (Some r.count) (look k rs)

-- a row for k in front, if it is to have a count
abbrev pub front : ℕ → Option ℕ → List Row → List Row
front k None rs = rs
front k (Some c) rs = row k c ∷ rs

-- the count c of the row of k becomes `step c`; a missing k comes in at its place with `new`, or is passed over
unfoldable pub change : Option ℕ → (ℕ → ℕ) → ℕ → List Row → List Row
change new step k [] = front k new []
change new step k (r ∷ rs) =
    choose (compare k r.key) (front k new (r ∷ rs)) (row r.key (step r.count) ∷ rs) (r ∷ change new step k rs)

-- k is listed: a missing key comes in with 0
abbrev pub touch : ℕ → List Row → List Row
touch = change (Some 0) (λ c. c)

-- k counts one more: a missing key comes in with 1
abbrev pub bump : ℕ → List Row → List Row
bump = change (Some 1) (λ c. c + 1)

-- k counts one less, if it counts any: a missing key is passed over
abbrev pub fade : ℕ → List Row → List Row
fade = change None (λ c. c - 1)
