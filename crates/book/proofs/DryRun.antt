-- How many rows an add would bring in, told before anything is changed: those of its listed keys that have no row and stand for the first time.
-- A touch brings a row in where the rows with the earlier keys touched have none. Assumes nothing.
use mathlib.Core.Path.{◌≡◌, refl, ap, ◌∙◌}
use Prim.Native.Nat.{ℕ, zero, suc, ◌+◌}
use native.Mathlib.Omega.{arith}
use mathlib.Core.List.{List, [], ◌∷◌, ◌++◌}
use Rattle.std.specs.Prelude.{Option, None, Some}
use lib.ListN.{length}
use Rattle.priors.specs.Rows.{Row, look, change, touch}
use Rattle.book.specs.Changes.{change_all, touch_all}
use Rattle.book.specs.Recount.{occurrences}
use Rattle.priors.proofs.RowLaws.{after_touch, gained, length_change}
use Rattle.book.proofs.Passes.{first, missing}
use Rattle.book.proofs.ManyRows.{times, look_all}

pub change_all-snoc : (new : Option ℕ) (step : ℕ → ℕ) (js : List ℕ) (k : ℕ) (rs : List Row) → change_all new step (js ++ k ∷ []) rs ≡ change new step k (change_all new step js rs)
unfolding change_all
change_all-snoc new step [] k rs = refl
change_all-snoc new step (j ∷ js) k rs = change_all-snoc new step js k (change new step j rs)

gained_first : (n : ℕ) (o : Option ℕ) → gained (times n after_touch o) (Some 0) ≡ first o n
gained_first zero None = refl
gained_first zero (Some c) = refl
gained_first (suc n) None = gained_first n (Some 0)
gained_first (suc n) (Some c) = gained_first n (Some c)

-- the same for one key, after others were touched
pub gained_next : (k : ℕ) (seen : List ℕ) (rs : List Row) → gained (look k (touch_all seen rs)) (Some 0) ≡ first (look k rs) (occurrences k seen)
gained_next k seen rs = ap (λ (o : Option ℕ). gained o (Some 0)) (look_all (Some 0) (λ c. c) k seen rs) ∙ gained_first (occurrences k seen) (look k rs)

pub length_next : (k : ℕ) (seen : List ℕ) (rs : List Row) → length (touch k (touch_all seen rs)) ≡ length (touch_all seen rs) + first (look k rs) (occurrences k seen)
length_next k seen rs = length_change (Some 0) (λ c. c) k (touch_all seen rs) ∙ ap (λ (n : ℕ). length (touch_all seen rs) + n) (gained_next k seen rs)

length_after : (ks seen : List ℕ) (rs : List Row) → length (touch_all ks (touch_all seen rs)) ≡ length (touch_all seen rs) + missing rs seen ks
unfolding missing change_all
length_after [] seen rs = omega arith
length_after (k ∷ ks) seen rs =
    let ih : length (touch_all ks (touch k (touch_all seen rs))) ≡ length (touch k (touch_all seen rs)) + missing rs (seen ++ k ∷ []) ks = rw (← change_all-snoc (Some 0) (λ c. c) seen k rs) (length_after ks (seen ++ k ∷ []) rs) in
    omega (arith, length_next k seen rs)

pub length_touched : (ks : List ℕ) (rs : List Row) → length (touch_all ks rs) ≡ length rs + missing rs [] ks
unfolding change_all
length_touched ks rs = length_after ks [] rs
