-- The base of a recount: as long as it lies before the window part, the paths from it on end with that, and a path that joins H joins them. Assumes nothing.
use mathlib.Core.Path.{◌≡◌, sym, ap, ◌∙◌}
use Prim.Native.Nat.{ℕ, zero, suc, ◌+◌, ◌-◌, ◌≤◌}
use native.Mathlib.Omega.{arith}
use mathlib.Core.List.{List, [], ◌∷◌, ◌++◌}
use lib.ListN.{length, drop, length-append}
use lib.Seq.{drop-drop, drop-append-le}
use Rattle.book.specs.Path.{Steps}
use Rattle.book.specs.Recount.{window_part, before_window}
use Rattle.book.specs.Figures.{in_window}
use Rattle.book.proofs.Window.{EndsWith, sequence_length_lem}

-- how many paths lie before the window part, from the two numbers
before_is : (W : ℕ) (H : List Steps) → before_window W H ≡ length H - in_window W (length H)
unfolding before_window
before_is W H = ap (λ (n : ℕ). length H - n) (sequence_length_lem W H)

-- with a window of 0 none do
pub before_all : (H : List Steps) → before_window 0 H ≡ 0
before_all H = before_is 0 H ∙ omega arith

-- without them the window part is left
pub drop_before : (W : ℕ) (H : List Steps) → drop (before_window W H) H ≡ window_part W H
unfolding window_part
drop_before zero H = rw (before_all H)
drop_before (suc w) H = let at : before_window (suc w) H ≡ length H - suc w = before_is (suc w) H ∙ omega arith in rw at

-- they grow no fewer
pub before_joined : (W : ℕ) (H : List Steps) (p : Steps) → before_window W H ≤ before_window W (H ++ p ∷ [])
before_joined zero H p = omega (arith, before_is 0 H)
before_joined (suc w) H p = omega (arith, before_is (suc w) H, before_is (suc w) (H ++ p ∷ []), length-append H (p ∷ []))

module _ (W base : ℕ) (H : List Steps) where
  pub drop_joined : (p : Steps) → base ≤ before_window W H → drop base (H ++ p ∷ []) ≡ drop base H ++ p ∷ []
  drop_joined p early = drop-append-le base H (p ∷ []) (omega (arith, before_is W H))

  pub ends_since : base ≤ before_window W H → EndsWith W H (drop base H)
  ends_since early =
      let n : ℕ = before_window W H in
      let at : base + (n - base) ≡ n = omega arith in
      (n - base, sym (drop-drop (n - base) base H ∙ ap (λ (k : ℕ). drop k H) at ∙ drop_before W H))
