-- Something for every index below a bound: a test that holds at each, and the list of values. Assumes nothing.
use Rattle.std.specs.Prelude.{ℕ, zero, suc, ◌≤◌, ◌<◌, ◌≡◌, Bool, true, false, ◌&&◌, List, [], ◌∷◌}

-- f holds at 0, 1, .. n - 1
unfoldable pub all_below : ℕ → (ℕ → Bool) → Bool
all_below zero f = true
all_below (suc n) f = all_below n f && f n

-- f 0, f 1, .. f (n - 1)
abbrev pub list_of {ℓ} : {X : Type ℓ} → ℕ → (ℕ → X) → List X
list_of zero f = []
list_of (suc n) f = f 0 ∷ list_of n (λ i. f (suc i))

-- ---- tests that hold up to some index and fail from there on

-- where f holds at an index below n, it holds at those before
abbrev pub Falls : (ℕ → Bool) → ℕ → Type 0
Falls f n = (i j : ℕ) → i ≤ j → j < n → f j ≡ true → f i ≡ true

-- r parts the indices from `from` up to `to`: f holds before r, and fails from r on
pub record Parts (f : ℕ → Bool) (from to r : ℕ) : Type 0 where
  pub from_le : from ≤ r
  pub le_to : r ≤ to
  pub before : (i : ℕ) → from ≤ i → i < r → f i ≡ true
  pub after : (i : ℕ) → r ≤ i → i < to → f i ≡ false
