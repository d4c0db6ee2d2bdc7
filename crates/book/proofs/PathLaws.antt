-- Paths as bytes and as lists of ranks: lengths, ranges, and both round trips. Assumes nothing.
use mathlib.Core.Path.{◌≡◌, refl, sym, ap, ap₂, ◌∙◌}
use Prim.Native.Nat.{ℕ, zero, suc, ◌+◌, ◌-◌, ◌*◌, ◌/◌, ◌%◌, ◌^◌, ◌≤◌, ◌<◌}
use native.Mathlib.Omega.{arith}
use mathlib.Core.List.{List, [], ◌∷◌, ◌++◌, flat_map, append_assoc, append-nil}
use lib.ListN.{length, drop, length-append, length-drop}
use lib.Seq.{drop-drop, drop-length, get_or-drop}
use Rattle.priors.specs.Word.{word_bytes}
use Rattle.priors.specs.Address.{lift, address_bytes, rank_at}
use Rattle.book.specs.Path.{Steps, steps_of, path_of, step_bytes}
use Rattle.book.specs.Figures.{All, Ranks}
use Rattle.priors.proofs.Ranks.{Bytes, rank_at_lt, rank_bytes, rank_forth}

-- ---- bytes

pub all_bytes : (s : List ℕ) → All (λ b. b < 256) s → Bytes s
all_bytes [] h i = record { fits = omega arith }
all_bytes (b ∷ s) h zero = record { fits = omega arith }
all_bytes (b ∷ s) h (suc i) = all_bytes s h.1 i

pub bytes_drop : (n : ℕ) (s : List ℕ) → Bytes s → Bytes (drop n s)
bytes_drop n s bytes i = rw (get_or-drop n s i 0) (bytes (n + i))

word_in_bytes : (v : ℕ) (s : List ℕ) → All (λ b. b < 256) s → All (λ b. b < 256) (word_bytes v ++ s)
word_in_bytes v s h = (omega arith, (omega arith, (omega arith, (omega arith, h))))

pub steps_in_bytes : (p : Steps) → All (λ b. b < 256) (step_bytes p)
unfolding flat_map
steps_in_bytes [] = tt
steps_in_bytes (a ∷ p) = word_in_bytes (lift (a / 2 ^ 32)) (word_bytes (a % 2 ^ 32) ++ step_bytes p) (word_in_bytes (a % 2 ^ 32) (step_bytes p) (steps_in_bytes p))

-- ---- lengths and ranges

pub length_steps : (s : List ℕ) (n : ℕ) → length (steps_of s n) ≡ n
unfolding steps_of
length_steps s zero = refl
length_steps s (suc n) = ap suc (length_steps (drop 8 s) n)

pub length-step_bytes : (p : Steps) → length (step_bytes p) ≡ 8 * length p
unfolding flat_map
length-step_bytes [] = refl
length-step_bytes (a ∷ p) = length-append (address_bytes a) (step_bytes p) ∙ omega (arith, length-step_bytes p)

pub steps_ranks : (s : List ℕ) → Bytes s → (n : ℕ) → Ranks (steps_of s n)
unfolding steps_of
steps_ranks s bytes zero = tt
steps_ranks s bytes (suc n) = (rank_at_lt s bytes 0, steps_ranks (drop 8 s) (bytes_drop 8 s bytes) n)

-- ---- from ranks to bytes and back

pub steps_back : (p : Steps) (q : List ℕ) → Ranks p → steps_of (step_bytes p ++ q) (length p) ≡ p
unfolding steps_of flat_map
steps_back [] q h = refl
steps_back (a ∷ p) q h =
    ap (λ (l : List ℕ). steps_of l (suc (length p))) (append_assoc (address_bytes a) (step_bytes p) q)
    ∙ ap₂ (λ (x : ℕ) (l : Steps). x ∷ l) (rank_bytes a (step_bytes p ++ q) h.0) (steps_back p q h.1)

-- ---- from bytes to ranks and back

pub steps_forth : (s : List ℕ) → Bytes s → (n : ℕ) → 8 * n ≤ length s → step_bytes (steps_of s n) ++ drop (8 * n) s ≡ s
unfolding steps_of flat_map
steps_forth s bytes zero h = refl
steps_forth s bytes (suc n) h =
    let rest : List ℕ = drop (8 * suc n) s in
    let len : length (drop 8 s) ≡ length s - 8 = length-drop 8 s in
    let at : 8 + 8 * n ≡ 8 * suc n = omega arith in
    append_assoc (address_bytes (rank_at s 0)) (step_bytes (steps_of (drop 8 s) n)) rest
    ∙ ap (λ (l : List ℕ). address_bytes (rank_at s 0) ++ l)
    (ap (λ (l : List ℕ). step_bytes (steps_of (drop 8 s) n) ++ l) (ap (λ (k : ℕ). drop k s) (sym at) ∙ sym (drop-drop (8 * n) 8 s))
    ∙ steps_forth (drop 8 s) (bytes_drop 8 s bytes) n (omega arith))
    ∙ rank_forth s bytes 0 (omega arith)

-- the bytes of a path of whole steps
pub path_forth : (s : List ℕ) → Bytes s → length s % 8 ≡ 0 → step_bytes (path_of s) ≡ s
path_forth s bytes h =
    let all : 8 * (length s / 8) ≡ length s = omega arith in
    let none : drop (8 * (length s / 8)) s ≡ [] = ap (λ (k : ℕ). drop k s) all ∙ drop-length s in
    sym (append-nil (step_bytes (path_of s))) ∙ ap (λ (l : List ℕ). step_bytes (path_of s) ++ l) (sym none) ∙ steps_forth s bytes (length s / 8) (omega arith)

pub path_back : (p : Steps) → Ranks p → path_of (step_bytes p) ≡ p
path_back p h =
    let n : length (step_bytes p) / 8 ≡ length p = omega (arith, length-step_bytes p) in
    ap (steps_of (step_bytes p)) n ∙ ap (λ (s : List ℕ). steps_of s (length p)) (sym (append-nil (step_bytes p))) ∙ steps_back p [] h
