-- A change by key is a change by place: a row set at the place of its key, or one put in where the key would go. This ties `change` to code that
-- searches for a place and then stores or moves rows. One view of the search (`Spot`) is made by the tests; the laws go by that view. Assumes nothing.
use mathlib.Core.Path.{◌≡◌, refl, sym, ap, ◌∙◌}
use Prim.Native.Nat.{ℕ, zero, suc, ◌+◌, ◌<◌, zero-le, suc-le-suc}
use native.Mathlib.Nat.{zero-add, add-suc}
use native.Mathlib.Numerals.{one-add}
use native.Mathlib.Omega.{arith}
use mathlib.Core.List.{List, [], ◌∷◌, ◌++◌}
use Rattle.std.specs.Prelude.{Option, None, Some}
use mathlib.Core.Bool.{Bool, true, false, cond}
use lib.Dec.{ltb, leb-suc-suc}
use lib.ListN.{length, get_or, set, take, drop}
use borrow.Author.Tests.{lt-ltb, le-ltb, eq-eqb, ne_eqb}
use Rattle.priors.specs.Rows.{Row, row, look, front, change}
use Rattle.priors.specs.Search.{blank, place, holds}
use Rattle.priors.proofs.Orders.{Side, below, same, above, side, compare_lt, compare_gt, compare_self}
use Rattle.priors.proofs.RowLaws.{gained}

-- how k stands to rows: at the place i, where the row has k or not
pub data Spot (k : ℕ) : List Row → ℕ → Bool → Type 0 where
  end : Spot k [] zero false
  before : {r : Row} {rs : List Row} → k < r.key → Spot k (r ∷ rs) zero false
  here : {r : Row} {rs : List Row} → k ≡ r.key → Spot k (r ∷ rs) zero true
  later : {r : Row} {rs : List Row} {i : ℕ} {b : Bool} → r.key < k → Spot k rs i b → Spot k (r ∷ rs) (suc i) b

pub spot : (k : ℕ) (rs : List Row) → Spot k rs (place rs k) (holds rs (place rs k) k)
unfolding place holds
spot k [] = end
spot k (r ∷ rs) = go (side k r.key) (spot k rs)
  where
    some_rows : ltb 0 (suc (length rs)) ≡ true
    some_rows = lt-ltb 0 (suc (length rs)) (suc-le-suc zero-le)

    go : Side k r.key → Spot k rs (place rs k) (holds rs (place rs k) k) → Spot k (r ∷ rs) (place (r ∷ rs) k) (holds (r ∷ rs) (place (r ∷ rs) k) k)
    go (below l e) s = rw (le-ltb r.key k (omega arith), some_rows, ne_eqb r.key k (λ q. omega arith)) (before l)
    go (same q e) s = rw (le-ltb r.key k (omega arith), some_rows, eq-eqb r.key k (sym q)) (here q)
    go (above l e) s = rw (lt-ltb r.key k l, leb-suc-suc (suc (place rs k)) (length rs)) (later l s)

-- a row that has the key is there
pub spot_lt : {k : ℕ} {rs : List Row} {i : ℕ} → Spot k rs i true → i < length rs
spot_lt (here q) = suc-le-suc zero-le
spot_lt (later l s) = suc-le-suc (spot_lt s)

-- ---- what a look-up finds, by place

pub look_spot : (k : ℕ) {rs : List Row} {i : ℕ} {b : Bool} → Spot k rs i b → look k rs ≡ cond b (Some (get_or rs i blank).count) None
unfolding look
look_spot k end = refl
look_spot k (before {r} l) = rw (compare_lt k r.key l)
look_spot k (here {r} q) = rw (q, compare_self r.key)
look_spot k (later {r} l s) = rw (compare_gt k r.key l) (look_spot k s)

pub look_place : (k : ℕ) (rs : List Row) → look k rs ≡ cond (holds rs (place rs k) k) (Some (get_or rs (place rs k) blank).count) None
look_place k rs = look_spot k (spot k rs)

-- ---- a change, by place

-- a row that comes in moves the place of a key above it one up
pub spot_moved : (c : ℕ) (step : ℕ → ℕ) (j k : ℕ) → j < k → {rs : List Row} {i : ℕ} {b : Bool} → Spot k rs i b → Spot k (change (Some c) step j rs) (gained (look j rs) (Some c) + i) b
unfolding look change
spot_moved c step j k h end = later h end
spot_moved c step j k h (before {r} l) = rw (compare_lt j r.key (omega arith)) (later h (before l))
spot_moved c step j k h (here {r} q) = rw (compare_lt j r.key (omega arith)) (later h (here q))
spot_moved c step j k h (later {r} {rs} {i} {b} l s) = go (side j r.key) (spot_moved c step j k h s)
  where
    go : Side j r.key → Spot k (change (Some c) step j rs) (gained (look j rs) (Some c) + i) b → Spot k (change (Some c) step j (r ∷ rs)) (gained (look j (r ∷ rs)) (Some c) + suc i) b
    go (below m e) ih = rw (e, one-add) (later h (later l s))
    go (same q e) ih = rw (e, zero-add) (later l s)
    go (above m e) ih = rw (e, add-suc) (later l ih)

module _ (new : Option ℕ) (step : ℕ → ℕ) (k : ℕ) where
  pub change_spot : {rs : List Row} {i : ℕ} {b : Bool} → Spot k rs i b
      → change new step k rs ≡ cond b (set rs i (row (get_or rs i blank).key (step (get_or rs i blank).count))) (take i rs ++ front k new (drop i rs))
  unfolding change
  change_spot end = refl
  change_spot (before {r} l) = rw (compare_lt k r.key l)
  change_spot (here {r} q) = rw (q, compare_self r.key)
  change_spot (later {r} {rs} {i} {b} l s) = rw (compare_gt k r.key l) (ap (λ (t : List Row). r ∷ t) (change_spot s) ∙ into b)
    where
      into : (b : Bool) → r ∷ cond b (set rs i (row (get_or rs i blank).key (step (get_or rs i blank).count))) (take i rs ++ front k new (drop i rs))
          ≡ cond b (r ∷ set rs i (row (get_or rs i blank).key (step (get_or rs i blank).count))) (r ∷ take i rs ++ front k new (drop i rs))
      into true = refl
      into false = refl
