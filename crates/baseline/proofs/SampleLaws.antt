-- How many paths are sampled: those below i with a number that the rate divides are i / rate, rounded up, and a sampled path's knot is the next one. Assumes nothing.
use mathlib.Core.Path.{◌≡◌, refl, sym, ap, ◌∙◌}
use mathlib.Core.Logic.{⊎_elim}
use mathlib.Core.Bool.{Bool, true, false, cond}
use Prim.Native.Nat.{ℕ, zero, suc, ◌+◌, ◌-◌, ◌*◌, ◌/◌, ◌%◌, ◌≤◌, ◌<◌}
use native.Mathlib.Nat.{suc-mul, div-add-mod', div-eq_of_lt-le, mul-div_cancel, mul-mod_left, le-div_iff_mul-le}
use native.Mathlib.Numerals.{add-one}
use native.Mathlib.Omega.{arith}
use lib.Dec.{eqb}
use borrow.Author.Tests.{eqb-true, eqb-false, eq-eqb}
use Rattle.priors.proofs.Tests.{split}
use Rattle.baseline.specs.Training.{knot_count}

-- how many j below i have j mod rate = 0
unfoldable pub knots_before : ℕ → ℕ → ℕ
knots_before rate zero = 0
knots_before rate (suc i) = cond (eqb (i % rate) 0) (suc (knots_before rate i)) (knots_before rate i)

module _ (rate : ℕ) (some : 1 ≤ rate) where
  quotient : (x k : ℕ) → k * rate ≤ x → x < k * rate + rate → x / rate ≡ k
  quotient x k low high =
      let e : (k + 1) * rate ≡ k * rate + rate = ap (λ (n : ℕ). n * rate) (add-one k) ∙ suc-mul k rate in
      let below : x < (k + 1) * rate = omega arith in
      div-eq_of_lt-le rate low below

  -- k is i / rate, rounded up
  Up : ℕ → ℕ → Type 0
  Up i k = (i ≤ k * rate) × (k * rate < i + rate)

  module _ (i k : ℕ) (up : Up i k) where
    -- where the rate divides i, nothing is rounded
    multiple : i % rate ≡ 0 → (k ≡ i / rate) × (k * rate ≡ i)
    unfolding Up
    multiple h =
        let e : i / rate * rate ≡ i = let d = div-add-mod' i rate in omega arith in
        let k-is : k ≡ i / rate = sym (mul-div_cancel k some) ∙ quotient (k * rate) (i / rate) (omega arith) (omega arith) in
        (k-is, ap (λ (n : ℕ). n * rate) k-is ∙ e)

    more : (b : Bool) → eqb (i % rate) 0 ≡ b → Up (suc i) (cond b (suc k) k)
    unfolding Up
    more true t = let m = (multiple (eqb-true (i % rate) 0 t)).1 in let s = suc-mul k rate in (omega arith, omega arith)
    more false t =
        ⊎_elim
        (λ (l : i < k * rate). (omega arith, omega arith))
        (λ (l : k * rate ≤ i).
        let e : i ≡ k * rate = omega arith in
        let m : i % rate ≡ 0 = ap (λ (n : ℕ). n % rate) e ∙ mul-mod_left k rate in
        let z : ◌≡◌ {A = ℕ} 0 1 = absurd (eqb-false (i % rate) 0 t m) in
        absurd (omega arith))
        (split i (k * rate))

  up_before : (i : ℕ) → Up i (knots_before rate i)
  unfolding knots_before Up
  up_before zero = (omega arith, omega arith)
  up_before (suc i) = more i (knots_before rate i) (up_before i) (eqb (i % rate) 0) refl

  -- the knot of a sampled path
  pub knot_of_lem : (i : ℕ) → i % rate ≡ 0 → knots_before rate i ≡ i / rate
  knot_of_lem i h = (multiple i (knots_before rate i) (up_before i) h).0

  pub count_is : (n : ℕ) → knots_before rate n ≡ knot_count n rate
  unfolding Up
  count_is n = let u = up_before n in sym (quotient (n + (rate - 1)) (knots_before rate n) (omega arith) (omega arith))

  grows_one : (b : Bool) (k : ℕ) → k ≤ cond b (suc k) k
  grows_one true k = omega arith
  grows_one false k = omega arith

  pub grows : (i n : ℕ) → i ≤ n → knots_before rate i ≤ knots_before rate n
  unfolding knots_before
  grows zero zero h = omega arith
  grows (suc i) zero h = absurd (omega arith)
  grows i (suc n) h =
      ⊎_elim
      (λ (l : i < suc n). omega (arith, grows i n (omega arith), grows_one (eqb (n % rate) 0) (knots_before rate n)))
      (λ (l : suc n ≤ i). let e : i ≡ suc n = omega arith in rw e (omega arith))
      (split i (suc n))

  -- a sampled path below n has a knot
  pub knot_lt : (i n : ℕ) → i < n → i % rate ≡ 0 → i / rate < knot_count n rate
  unfolding knots_before
  knot_lt i n l h =
      let one : knots_before rate (suc i) ≡ suc (knots_before rate i) = rw (eq-eqb (i % rate) 0 h) in
      omega (arith, grows (suc i) n l, knot_of_lem i h, count_is n)

  -- the lengths of knots are those of paths
  pub length_lt : (k n : ℕ) → k < knot_count n rate → k * rate < n
  length_lt k n l =
      let m : suc k * rate ≤ n + (rate - 1) = (le-div_iff_mul-le {k = rate} {x = suc k} {y = n + (rate - 1)} some).0 l in
      omega (arith, suc-mul k rate)

-- a knot's ten values lie among those of the first knots
pub values_lt : (k count size : ℕ) → k < count → 10 * count ≤ size → 10 * k + 9 < size
values_lt k count size l h = omega arith
