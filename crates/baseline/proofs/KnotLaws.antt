-- Rising knots: each lies below the next, so earlier ones are not above later ones; and what shows how many are not above a length. Assumes nothing.
use mathlib.Core.Path.{◌≡◌, sym, ap, ◌∙◌}
use mathlib.Core.Logic.{⊎_elim}
use mathlib.Core.Bool.{Bool, true, false, ◌&&◌}
use Prim.Native.Nat.{ℕ, zero, suc, ◌+◌, ◌-◌, ◌*◌, ◌≤◌, ◌<◌, zero-le}
use native.Mathlib.Numerals.{add-one}
use native.Mathlib.Omega.{arith}
use mathlib.Core.List.{List, [], ◌∷◌}
use lib.Dec.{leb, eqb, ltb}
use lib.ListN.{length}
use lib.Ieee.{Float}
use Rattle.baseline.specs.Limits.{max_sequences, max_knots, knot_values}
use borrow.Author.Tests.{ltb-true, lt-ltb, le-leb, lt-leb, eq-eqb, eqb-true, leb-true, leb-false}
use Rattle.priors.proofs.Tests.{split}
use Rattle.priors.proofs.BelowLaws.{all_at, all_from, all_fails, first_true, second_true}
use Rattle.std.specs.List.{IsAllAdjacentAnswer}
use Rattle.std.specs.List.Sorted.{IsPartitionPoint, IsPartitionedBy}
use Rattle.std.proofs.lemmas.List.Sorted.{IsPartitionedBy-leb, IsNonDecreasingBy-from_default}
use Rattle.baseline.specs.Stats.{knot_at, not_above, rises_at, rising, baseline_fits, past_one_knot}

module _ (knots : List ℕ) (h : rising knots ≡ true) where
  pub rises : (k : ℕ) → k + 1 < length knots → knot_at knots k < knot_at knots (k + 1)
  unfolding rising rises_at
  rises k l = ltb-true _ _ (all_at (rises_at knots) (length knots - 1) k h (omega arith))

  pub in_order : (j k : ℕ) → j ≤ k → k < length knots → knot_at knots j ≤ knot_at knots k
  in_order j zero l m = let e : j ≡ 0 = omega arith in rw e (omega arith)
  in_order j (suc k) l m =
      ⊎_elim
      (λ b. omega (arith, in_order j k (omega arith) (omega arith), rw add-one at (rises k (omega arith))))
      (λ (b : suc k ≤ j). let e : j ≡ suc k = omega arith in rw e (omega arith))
      (split j (suc k))

-- what each two neighbours answer
pub rising_answer : (knots : List ℕ) (b : Bool) → IsAllAdjacentAnswer (λ x y b. b ≡ ltb x y) knots b → b ≡ rising knots
unfolding rising rises_at
rising_answer knots true h = sym (all_from (rises_at knots) (length knots - 1) (λ k l. sym (h k 0 (omega arith))))
rising_answer knots false (k, l, h) = sym (all_fails (rises_at knots) (length knots - 1) k (omega arith) (sym (h 0)))

-- the knots before n are not above i, the others are
pub not_above_is : (knots : List ℕ) (i n : ℕ) → n ≤ length knots → ((k : ℕ) → k < n → knot_at knots k ≤ i) → ((k : ℕ) → n ≤ k → k < length knots → i < knot_at knots k) → n ≡ not_above knots i
unfolding not_above
not_above_is [] i n l low high = omega arith
not_above_is (k ∷ ks) i zero l low high = rw (lt-leb k i (high 0 (omega arith) (omega arith))) (not_above_is ks i 0 (omega arith) (λ j m. absurd (omega arith)) (λ j m b. high (suc j) (omega arith) (omega arith)))
not_above_is (k ∷ ks) i (suc n) l low high = rw (le-leb k i (low 0 (omega arith))) (ap suc (not_above_is ks i n (omega arith) (λ j m. low (suc j) (omega arith)) (λ j m b. high (suc j) (omega arith) (omega arith))))

-- so halving finds their number
pub knots_parted : (knots : List ℕ) → rising knots ≡ true → (i : ℕ) → IsPartitionedBy (λ knot. leb knot i) knots
knots_parted knots h i = IsPartitionedBy-leb (λ knot. knot) knots i (IsNonDecreasingBy-from_default (λ knot. knot) knots 0 (in_order knots h))

pub number_parts : (knots : List ℕ) (i n : ℕ) → n ≤ length knots → IsPartitionPoint (λ knot. leb knot i ≡ true) (λ knot. leb knot i ≡ false) knots n
    → (n ≡ not_above knots i) × ((k : ℕ) → k < n → knot_at knots k ≤ i)
number_parts knots i n l p =
    let low : (k : ℕ) → k < n → knot_at knots k ≤ i = λ k m. leb-true _ _ (p.0 k 0 zero-le m) in
    (not_above_is knots i n l low (λ k m b. leb-false _ _ (p.1 k 0 m b)), low)

-- past the last of some knots, where 18 does not hold, there are two
pub two_knots_lem : (knots : List ℕ) (i n : ℕ) → past_one_knot knots i ≡ false → length knots ≡ n → (n ≡ 0 → ⊥) → knot_at knots (n - 1) < i → 2 ≤ n
unfolding past_one_knot
two_knots_lem knots i n h e some l =
    ⊎_elim
    (λ (few : n < 2).
    let one : n ≡ 1 = omega arith in
    let first : knot_at knots 0 < i = rw one at l in
    let past : past_one_knot knots i ≡ true = rw (eq-eqb _ _ (e ∙ one), lt-ltb _ _ first) in
    let z : ◌≡◌ {A = ℕ} 0 1 = cc in
    absurd (omega arith))
    (λ many. many)
    (split n 2)

-- ---- what 17 leaves

module _ (knots : List ℕ) (values : List Float) (s : ℕ) (h : baseline_fits knots values s ≡ true) where
  sizes : eqb (length values) (knot_values * length knots) && rising knots ≡ true
  unfolding baseline_fits
  sizes = second_true (leb (length knots) max_knots) _ (second_true (leb s max_sequences) _ (second_true (leb 1 s) _ h))

  pub fits_values : length values ≡ knot_values * length knots
  fits_values = eqb-true _ _ (first_true _ (rising knots) sizes)

  pub fits_rising : rising knots ≡ true
  fits_rising = second_true (eqb (length values) (knot_values * length knots)) _ sizes
