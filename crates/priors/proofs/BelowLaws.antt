-- What a scan over indices shows: a test that holds at each index passed holds below, one that fails anywhere fails for all; and what stands in a list of
-- values. Assumes nothing.
use mathlib.Core.Path.{◌≡◌, refl, sym, ap, ◌∙◌}
use mathlib.Core.Logic.{⊎_elim}
use mathlib.Core.Bool.{Bool, true, false, ◌&&◌}
use Prim.Native.Nat.{ℕ, zero, suc, ◌<◌}
use native.Mathlib.Omega.{arith}
use mathlib.Core.List.{List, [], ◌∷◌}
use lib.ListN.{length, get_or}
use Rattle.std.specs.List.{list_all}
use Rattle.priors.specs.Below.{all_below, list_of}
use Rattle.priors.proofs.Tests.{split}

-- ---- two tests as one

pub both_true : {a b : Bool} → a ≡ true → b ≡ true → a && b ≡ true
both_true p q = rw (p, q)

pub first_true : (a b : Bool) → a && b ≡ true → a ≡ true
first_true true b h = refl
first_true false b h = h

pub second_true : (a b : Bool) → a && b ≡ true → b ≡ true
second_true true b h = h
second_true false b h = let z : ◌≡◌ {A = ℕ} 0 1 = cc in absurd (omega arith)

pub and_false : (a b : Bool) → b ≡ false → a && b ≡ false
and_false true b h = h
and_false false b h = refl

module _ (f : ℕ → Bool) where
  pub all_none : all_below 0 f ≡ true
  unfolding all_below
  all_none = refl

  pub all_more : (n : ℕ) → all_below n f ≡ true → f n ≡ true → all_below (suc n) f ≡ true
  unfolding all_below
  all_more n h t = both_true h t

  pub all_from : (n : ℕ) → ((j : ℕ) → j < n → f j ≡ true) → all_below n f ≡ true
  all_from zero h = all_none
  all_from (suc n) h = all_more n (all_from n (λ j l. h j (omega arith))) (h n (omega arith))

  pub all_at : (n i : ℕ) → all_below n f ≡ true → i < n → f i ≡ true
  unfolding all_below
  all_at zero i h l = absurd (omega arith)
  all_at (suc n) i h l = ⊎_elim (λ m. all_at n i (first_true (all_below n f) (f n) h) m) (λ m. let e : i ≡ n = omega arith in ap f e ∙ second_true (all_below n f) (f n) h) (split i n)

  pub all_fails : (n i : ℕ) → i < n → f i ≡ false → all_below n f ≡ false
  unfolding all_below
  all_fails zero i l h = absurd (omega arith)
  all_fails (suc n) i l h =
      ⊎_elim (λ m. ap (λ (b : Bool). b && f n) (all_fails n i m h)) (λ m. let e : n ≡ i = omega arith in and_false (all_below n f) (f n) (ap f e ∙ h)) (split i n)

-- ---- values

pub length_list_of : {X : Type 0} (n : ℕ) (f : ℕ → X) → length (list_of n f) ≡ n
length_list_of zero f = refl
length_list_of (suc n) f = ap suc (length_list_of n (λ i. f (suc i)))

pub get_d_list_of : {X : Type 0} (n : ℕ) (f : ℕ → X) (i : ℕ) (d : X) → i < n → get_or (list_of n f) i d ≡ f i
get_d_list_of zero f i d h = absurd (omega arith)
get_d_list_of (suc n) f zero d h = refl
get_d_list_of (suc n) f (suc i) d h = get_d_list_of n (λ j. f (suc j)) i d (omega arith)

-- ---- the elements of a list

and_assoc : (a b d : Bool) → (a && b) && d ≡ a && (b && d)
and_assoc true b d = refl
and_assoc false b d = refl

-- a test at the first index, and at those after it
all_front : (n : ℕ) (f : ℕ → Bool) → f 0 && all_below n (λ i. f (suc i)) ≡ all_below (suc n) f
unfolding all_below
all_front zero f = ends (f 0)
  where
    ends : (b : Bool) → b && true ≡ true && b
    ends true = refl
    ends false = refl
all_front (suc n) f = sym (and_assoc (f 0) (all_below n (λ i. f (suc i))) (f (suc n))) ∙ ap (λ (b : Bool). b && f (suc n)) (all_front n f)

-- a test of each element is a test at each index
pub list_all_at : {X : Type 0} (p : X → Bool) (d : X) (xs : List X) → list_all p xs ≡ all_below (length xs) (λ i. p (get_or xs i d))
unfolding all_below
list_all_at p d [] = refl
list_all_at p d (x ∷ xs) = ap (λ (b : Bool). p x && b) (list_all_at p d xs) ∙ all_front (length xs) (λ i. p (get_or (x ∷ xs) i d))
