-- The laws of `specs/Word.antt`: what four stores leave, and what is read after a write.
-- Assumes nothing.
use mathlib.Core.Path.{◌≡◌, sym, ap, ◌∙◌}
use Prim.Native.Nat.{ℕ, ◌+◌, ◌-◌, ◌/◌, ◌%◌, ◌^◌, ◌≤◌, ◌<◌}
use mathlib.Core.Logic.{◌⊎◌, inl, inr}
use native.Mathlib.Nat.{add_assoc, add-zero, mod-eq_of_lt}
use native.Mathlib.Numerals.{towards_suc}
use lib.Dec.{lit<}
use lib.Pow.{shr-shr}
use native.Mathlib.Omega.{arith}
use mathlib.Core.List.{List, ◌++◌, append_assoc}
use lib.ListN.{length, get_or, take, drop, set, get_or-append, length-append, length-take, length-drop}
use lib.Seq.{sets-eq, length-take-le, get_or-append-add, get_or-take, get_or-drop, take_at, drop_at, drop-drop}
use Rattle.priors.specs.Word.{word, word_bytes, store}

-- four stores in a row
pub store_sets : (s : List ℕ) (at v : ℕ) → at + 4 ≤ length s
    → set (set (set (set s at (v % 256)) (at + 1) (v / 256 % 256)) (at + 2) (v / 65536 % 256)) (at + 3) (v / 16777216 % 256) ≡ store s at (word_bytes v)
unfolding store
store_sets s at v h = simp towards_suc (simp (append_assoc, towards_suc) at (sets-eq (word_bytes v) s at h))

-- the length stays
pub length_store : (s : List ℕ) (at : ℕ) (xs : List ℕ) → at + length xs ≤ length s → length (store s at xs) ≡ length s
unfolding store
length_store s at xs h = simp (length-append, length-take, length-drop) (omega arith)

-- what is after a store stays
pub drop_store : (s : List ℕ) (at : ℕ) (xs : List ℕ) (b : ℕ) → at + length xs ≡ b → b ≤ length s → drop b (store s at xs) ≡ drop b s
unfolding store
drop_store s at xs b e h =
    let l : length (take at s ++ xs) ≡ b = simp (length-append, length-take) (omega arith) in
    ap (drop b) (sym (append_assoc (take at s) xs (drop (at + length xs) s))) ∙ drop_at (take at s ++ xs) (drop (at + length xs) s) b l ∙ ap (λ (k : ℕ). drop k s) e

-- two stores that touch are one
pub store_store : (s : List ℕ) (at : ℕ) (xs ys : List ℕ) (b : ℕ) → at + length xs ≡ b → b + length ys ≤ length s → store (store s at xs) b ys ≡ store s at (xs ++ ys)
unfolding store
store_store s at xs ys b e h =
    let d : List ℕ = drop (at + length xs) s in
    let l : length (take at s ++ xs) ≡ b = simp (length-append, length-take) (omega arith) in
    let front : take b (take at s ++ (xs ++ d)) ≡ take at s ++ xs = ap (take b) (sym (append_assoc (take at s) xs d)) ∙ take_at (take at s ++ xs) d b l in
    let back : drop (b + length ys) (take at s ++ (xs ++ d)) ≡ drop (b + length ys) s =
    sym (drop-drop (length ys) b (take at s ++ (xs ++ d)))
    ∙ ap (drop (length ys)) (ap (drop b) (sym (append_assoc (take at s) xs d)) ∙ drop_at (take at s ++ xs) d b l)
    ∙ drop-drop (length ys) (at + length xs) s ∙ ap (λ (k : ℕ). drop (k + length ys) s) e in
    let whole : at + length (xs ++ ys) ≡ b + length ys = simp length-append (omega arith) in
    rw (front, back, whole) (simp append_assoc)

-- ---- a read of a part

pub word_append_add : (p q : List ℕ) (at : ℕ) → word (p ++ q) (length p + at) ≡ word q at
unfolding word
word_append_add p q at = simp (add_assoc, get_or-append-add)

-- past a front whose length is known by an equation
pub word_at : (p q : List ℕ) (n at : ℕ) → length p ≡ n → word (p ++ q) (n + at) ≡ word q at
word_at p q n at e = rw (← e) (word_append_add p q at)

-- within a front
pub word_front : (p q : List ℕ) (i : ℕ) → i + 4 ≤ length p → word (p ++ q) i ≡ word p i
unfolding word
word_front p q i h =
    let at : (k : ℕ) → k < 4 → get_or (p ++ q) (i + k) 0 ≡ get_or p (i + k) 0 = λ k l. get_or-append p q 0 (i + k) (omega arith) in
    let at₀ : get_or (p ++ q) i 0 ≡ get_or p i 0 = get_or-append p q 0 i (omega arith) in
    rw (at₀, at 1 (lit< tt), at 2 (lit< tt), at 3 (lit< tt))

pub word_take : (n : ℕ) (s : List ℕ) (i : ℕ) → i + 4 ≤ n → word (take n s) i ≡ word s i
unfolding word
word_take n s i h =
    let at : (k : ℕ) → k < 4 → get_or (take n s) (i + k) 0 ≡ get_or s (i + k) 0 = λ k l. get_or-take n s (i + k) 0 (omega arith) in
    let at₀ : get_or (take n s) i 0 ≡ get_or s i 0 = get_or-take n s i 0 (omega arith) in
    rw (at₀, at 1 (lit< tt), at 2 (lit< tt), at 3 (lit< tt))

pub word_drop : (n : ℕ) (s : List ℕ) (i : ℕ) → word (drop n s) i ≡ word s (n + i)
unfolding word
word_drop n s i = simp (add_assoc, get_or-drop)

-- four bytes spell the number that they came from
pub word_bytes_lem : (v : ℕ) (q : List ℕ) → v < 2 ^ 32 → word (word_bytes v ++ q) 0 ≡ v
unfolding word
word_bytes_lem v q h =
    let top : v / 16777216 < 256 = omega arith in
    omega (arith, shr-shr v 8 8, shr-shr v 16 8, mod-eq_of_lt top)

-- ---- a read after a write

pub word_store_same : (s : List ℕ) (at v : ℕ) → at + 4 ≤ length s → v < 2 ^ 32 → word (store s at (word_bytes v)) at ≡ v
unfolding store
word_store_same s at v h k =
    ap (word (store s at (word_bytes v))) (sym (add-zero at)) ∙ word_at (take at s) (word_bytes v ++ drop (at + 4) s) at 0 (length-take-le at s (omega arith)) ∙ word_bytes_lem v (drop (at + 4) s) k

pub word_store_other : (s : List ℕ) (at : ℕ) (xs : List ℕ) (i : ℕ) → at + length xs ≤ length s → (i + 4 ≤ at) ⊎ (at + length xs ≤ i) → word (store s at xs) i ≡ word s i
unfolding store
word_store_other s at xs i h (inl k) =
    let l : length (take at s) ≡ at = length-take-le at s (omega arith) in
    word_front (take at s) (xs ++ drop (at + length xs) s) i (omega arith) ∙ word_take at s i k
word_store_other s at xs i h (inr k) =
    let j : ℕ = i - (at + length xs) in
    let e : i ≡ at + (length xs + j) = omega arith in
    let f : at + length xs + j ≡ i = omega arith in
    ap (word (store s at xs)) e
    ∙ word_at (take at s) (xs ++ drop (at + length xs) s) at (length xs + j) (length-take-le at s (omega arith))
    ∙ word_append_add xs (drop (at + length xs) s) j
    ∙ word_drop (at + length xs) s j ∙ ap (word s) f
