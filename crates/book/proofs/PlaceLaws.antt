-- Copying, and a place of the queue as its three parts. Assumes nothing.
use mathlib.Core.Path.{◌≡◌, refl, sym, ap, ap₂, ◌∙◌}
use Prim.Native.Nat.{ℕ, suc, ◌+◌, ◌-◌, ◌/◌, ◌≤◌, ◌<◌}
use native.Mathlib.Nat.{zero-add}
use native.Mathlib.Numerals.{add-one}
use native.Mathlib.Omega.{arith}
use mathlib.Core.List.{List, ◌++◌, append_assoc, append-nil}
use lib.ListN.{length, get_or, take, drop, set, length-append, length-take, length-drop, length-replicate, drop_of_length-le}
use lib.Seq.{drop-drop, take_all, paste-suc}
use Rattle.priors.specs.Word.{word_bytes, store}
use Rattle.priors.proofs.Fields.{length_store, store_store}
use Rattle.book.specs.Calls.{zeros, place_bytes}

-- ---- copying

pub copy_turn : (d s t : List ℕ) (i : ℕ) → i < length d → i < length s → t ≡ take i s ++ drop i d → set t i (get_or s i 0) ≡ take (i + 1) s ++ drop (i + 1) d
copy_turn d s t i h k e =
    let at : 0 + i ≡ i = omega arith in
    let turn : set (take i s ++ drop i d) i (get_or s i 0) ≡ take (suc i) s ++ drop (suc i) d = simp zero-add at (paste-suc d 0 s i 0 (omega arith) k) in
    ap (λ (l : List ℕ). set l i (get_or s i 0)) e ∙ turn ∙ ap (λ (j : ℕ). take j s ++ drop j d) (sym (add-one i))

pub copy_done : (d s t : List ℕ) (i : ℕ) → length d ≡ length s → length s ≡ i → t ≡ take i s ++ drop i d → t ≡ s
copy_done d s t i n m e =
    let past : length d ≤ i = omega arith in
    let all : length s ≤ i = omega arith in
    e ∙ ap (λ (l : List ℕ). take i s ++ l) (drop_of_length-le d past) ∙ append-nil (take i s) ∙ take_all i s all

-- ---- a part written

-- what a part that was lent leaves in the whole
pub part_store : (s ys : List ℕ) (a k : ℕ) → length ys ≡ k → take a s ++ (ys ++ drop k (drop a s)) ≡ store s a ys
unfolding store
part_store s ys a k e = rw (drop-drop k a s, e)

-- a place written: its length, then its steps into a part, then zeros into what is left of the place
module _ (s path : List ℕ) (a : ℕ) (in-queue : a + 516 ≤ length s) (short : length path ≤ 512) where
  stored : store (store (store s a (word_bytes (length path / 8))) (a + 4) path) (a + 4 + length path) (zeros (512 - length path)) ≡ store s a (place_bytes path)
  unfolding place_bytes
  stored =
      let w : List ℕ = word_bytes (length path / 8) in
      let z : List ℕ = zeros (512 - length path) in
      let lz : length z ≡ 512 - length path = length-replicate (512 - length path) 0 in
      ap (λ (l : List ℕ). store l (a + 4 + length path) z) (store_store s a w path (a + 4) refl (omega arith))
      ∙ store_store s a (w ++ path) z (a + 4 + length path) (simp length-append (omega arith)) (omega arith)
      ∙ ap (store s a) (append_assoc w path z)

  module _ (s₁ p : List ℕ) (k₁ k₂ : ℕ) (k₁-is : length path ≡ k₁) (k₂-is : 512 - length path ≡ k₂) (first : s₁ ≡ store s a (word_bytes (length path / 8))) (copied : p ≡ path) where
    s₂ : List ℕ
    s₂ = take (a + 4) s₁ ++ (p ++ drop k₁ (drop (a + 4) s₁))

    second : s₂ ≡ store (store s a (word_bytes (length path / 8))) (a + 4) path
    unfolding s₂
    second = ap₂ (λ (x y : List ℕ). take (a + 4) x ++ (y ++ drop k₁ (drop (a + 4) x))) first copied ∙ part_store (store s a (word_bytes (length path / 8))) path (a + 4) k₁ k₁-is

    length_second : length s₂ ≡ length s
    length_second =
        let l : length (store s a (word_bytes (length path / 8))) ≡ length s = length_store s a (word_bytes (length path / 8)) (omega arith) in
        ap length second ∙ length_store (store s a (word_bytes (length path / 8))) (a + 4) path (omega arith) ∙ l

    pub place_written : (z : List ℕ) → z ≡ zeros (length (take k₂ (drop (a + 4 + length path) (take (a + 4) s₁ ++ (p ++ drop k₁ (drop (a + 4) s₁))))))
        → take (a + 4 + length path) (take (a + 4) s₁ ++ (p ++ drop k₁ (drop (a + 4) s₁)))
        ++ (z ++ drop k₂ (drop (a + 4 + length path) (take (a + 4) s₁ ++ (p ++ drop k₁ (drop (a + 4) s₁))))) ≡ store s a (place_bytes path)
    unfolding s₂
    place_written z is =
        let b : ℕ = a + 4 + length path in
        let n : length (take k₂ (drop b s₂)) ≡ 512 - length path = simp (length-take, length-drop) (omega (arith, length_second)) in
        let zero : z ≡ zeros (512 - length path) = is ∙ ap zeros n in
        let lz : length (zeros (512 - length path)) ≡ k₂ = length-replicate (512 - length path) 0 ∙ k₂-is in
        ap₂ (λ (x y : List ℕ). take b x ++ (y ++ drop k₂ (drop b x))) second zero
        ∙ part_store (store (store s a (word_bytes (length path / 8))) (a + 4) path) (zeros (512 - length path)) b k₂ lz
        ∙ stored
