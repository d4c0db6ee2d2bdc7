-- How many rows there are during an add: none goes away, and once a path's listed keys are touched, counting brings none in. So one pass leaves as many rows as
-- touching its keys does, which is what 12 looks at, and at no moment are there more. Assumes nothing.
use mathlib.Core.Path.{◌≡◌, refl, ap, ◌∙◌}
use Prim.Native.Nat.{ℕ, zero, suc, ◌+◌, ◌≤◌, ◌<◌}
use native.Mathlib.Omega.{arith}
use mathlib.Core.List.{List, [], ◌∷◌}
use Rattle.std.specs.Prelude.{Option, None, Some}
use mathlib.Core.Bool.{Bool, true, false, cond}
use lib.Dec.{eqb}
use lib.ListN.{length}
use Rattle.priors.specs.Rows.{Row, keys, Ascends, look, change, touch, bump}
use Rattle.entries.specs.Keys.{end_key, child_key}
use Rattle.book.specs.Path.{Steps, listed_keys, counted_keys}
use Rattle.book.specs.Changes.{change_all, touch_all, bump_all}
use Rattle.book.specs.Recount.{occurrences}
use Rattle.book.specs.Figures.{Listed}
use Rattle.priors.proofs.RowLaws.{after, after_touch, gained, look_change, length_change, grows}
use Rattle.book.proofs.Passes.{one_pass}
use Rattle.book.proofs.ManyRows.{times, look_all}
use Rattle.book.proofs.Occurrences.{counted_listed}
use Rattle.book.proofs.Image.{touch_some}
use Rattle.book.proofs.Membership.{In, in_head, in_tail}
use Rattle.book.proofs.OnePass.{one_pass_lem}

-- ---- a key that has a row

-- whatever is changed, it keeps one
pub listed_change : (new : Option ℕ) (step : ℕ → ℕ) (k j : ℕ) (rs : List Row) → Listed j rs → Listed j (change new step k rs)
listed_change new step k j rs l = go (eqb j k) (look_change new step k j rs ∙ ap (λ (o : Option ℕ). cond (eqb j k) (after new step o) o) l.1)
  where
    go : (b : Bool) → look j (change new step k rs) ≡ cond b (after new step (Some l.0)) (Some l.0) → Listed j (change new step k rs)
    go true e = (step l.0, e)
    go false e = (l.0, e)

-- a key that was touched has one
listed_touched : (j : ℕ) (ks : List ℕ) (rs : List Row) → In j ks → Listed j (touch_all ks rs)
listed_touched j ks rs h = go (occurrences j ks) h (look j rs) (look_all (Some 0) (λ c. c) j ks rs)
  where
    go : (n : ℕ) → 0 < n → (o : Option ℕ) → look j (touch_all ks rs) ≡ times n after_touch o → Listed j (touch_all ks rs)
    go zero h o e = absurd (omega arith)
    go (suc n) h None e = (0, e ∙ touch_some n 0)
    go (suc n) h (Some c) e = (c, e ∙ touch_some n c)

-- ---- lengths

length_listed_bump : (k : ℕ) (rs : List Row) → Listed k rs → length (bump k rs) ≡ length rs
length_listed_bump k rs l =
    let g : gained (look k rs) (Some 1) ≡ 0 = ap (λ (o : Option ℕ). gained o (Some 1)) l.1 in
    omega (arith, length_change (Some 1) (λ c. c + 1) k rs)

length_bumps : (ks : List ℕ) (rs : List Row) → ((j : ℕ) → In j ks → Listed j rs) → length (bump_all ks rs) ≡ length rs
unfolding change_all
length_bumps [] rs h = refl
length_bumps (k ∷ ks) rs h =
    length_bumps ks (bump k rs) (λ j i. listed_change (Some 1) (λ c. c + 1) k j rs (h j (in_tail j k ks i)))
    ∙ length_listed_bump k rs (h k (in_head k k ks refl))

pub length_half : (p : Steps) (rs : List Row) → length (bump_all (counted_keys p) (touch_all (listed_keys p) rs)) ≡ length (touch_all (listed_keys p) rs)
length_half p rs = length_bumps (counted_keys p) (touch_all (listed_keys p) rs) (λ j i. listed_touched j (listed_keys p) rs (omega (arith, counted_listed j p)))

pub length_pass : (p : Steps) (rs : List Row) → Ascends 0 (keys rs) → length (one_pass p rs) ≡ length (touch_all (listed_keys p) rs)
length_pass p rs h = ap length (one_pass_lem p rs h) ∙ length_half p rs

-- what is still to come only adds rows
pub pass_grows : (p : Steps) (rs : List Row) → length rs ≤ length (one_pass p rs)
unfolding one_pass
pass_grows [] rs = omega arith
pass_grows (a ∷ []) rs = grows _ _ (end_key a) rs
pass_grows (a ∷ b ∷ p) rs =
    omega (arith, grows (Some 0) (λ c. c) (end_key a) rs, grows (Some 1) (λ c. c + 1) (child_key a b) (touch (end_key a) rs), pass_grows (b ∷ p) (bump (child_key a b) (touch (end_key a) rs)))
