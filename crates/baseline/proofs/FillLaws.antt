-- A slice that a loop fills from its start: one more turn, and the end. Assumes nothing.
use mathlib.Core.Path.{◌≡◌, refl, sym, ap, ap₂, ◌∙◌}
use Prim.Native.Nat.{ℕ, zero, suc, ◌+◌, ◌≤◌, ◌<◌}
use native.Mathlib.Numerals.{add-one}
use native.Mathlib.Omega.{arith}
use mathlib.Core.List.{List, [], ◌∷◌, ◌++◌}
use lib.ListN.{length, get_or, take, drop, set, replicate, length-take}
use lib.Seq.{drop-cons, set_at, append_snoc}
use Rattle.priors.specs.Below.{list_of}
use Rattle.priors.proofs.BelowLaws.{length_list_of}

module _ {X : Type 0} where
  list_of_more : (n : ℕ) (f : ℕ → X) → list_of (suc n) f ≡ list_of n f ++ f n ∷ []
  list_of_more zero f = refl
  list_of_more (suc n) f = ap (λ (l : List X). f 0 ∷ l) (list_of_more n (λ k. f (suc k)))

  module _ (f : ℕ → X) (s₀ s : List X) (i : ℕ) (so_far : s ≡ list_of i f ++ drop i s₀) where
    pub fill_turn : i < length s₀ → set s i (f i) ≡ list_of (i + 1) f ++ drop (i + 1) s₀
    fill_turn h =
        ap (λ (l : List X). set l i (f i)) (so_far ∙ ap (λ (l : List X). list_of i f ++ l) (drop-cons s₀ i (f i) h))
        ∙ set_at (list_of i f) (get_or s₀ i (f i)) (drop (suc i) s₀) (f i) i (length_list_of i f)
        ∙ sym (append_snoc (list_of i f) (f i) (drop (suc i) s₀))
        ∙ ap (λ (l : List X). l ++ drop (suc i) s₀) (sym (list_of_more i f))
        ∙ ap (λ (k : ℕ). list_of k f ++ drop k s₀) (sym (add-one i))

  -- so many taken from the start
  pub taken_length : (s : List X) (n : ℕ) → n ≤ length s → n ≡ length (take n s)
  taken_length s n h = simp length-take (omega arith)

  -- a part at the start that is filled with one value
  pub part_filled : (a : X) (s z : List X) (k n : ℕ) → k ≡ n → n ≤ length s → z ≡ replicate (length (take k s)) a → z ++ drop k s ≡ replicate n a ++ drop n s
  part_filled a s z k n e h is =
      let l : length (take k s) ≡ n = simp length-take (omega arith) in
      ap₂ (λ (x : List X) (m : ℕ). x ++ drop m s) (is ∙ ap (λ (m : ℕ). replicate m a) l) e
