-- The steps of a path by their numbers, as they are read from its bytes, and the keys that it lists by theirs. Assumes nothing.
use mathlib.Core.Path.{◌≡◌, refl, sym, ap, ap₂, ◌∙◌}
use mathlib.Core.Bool.{true, ◌&&◌}
use Prim.Native.Nat.{ℕ, zero, suc, ◌+◌, ◌*◌, ◌/◌, ◌%◌, ◌^◌, ◌≤◌, ◌<◌}
use native.Mathlib.Nat.{not-suc-le-zero, le_of_suc-le-suc, add_assoc}
use native.Mathlib.Omega.{arith}
use mathlib.Core.List.{List, [], ◌∷◌}
use lib.Dec.{eqb, leb}
use lib.ListN.{length, get_or, take, drop, length-take, length-drop}
use lib.Seq.{ext_get_or}
use borrow.Author.Tests.{eqb-true, leb-true}
use Rattle.priors.specs.Word.{word}
use Rattle.priors.specs.Address.{rank, rank_at}
use Rattle.priors.proofs.BelowLaws.{first_true, second_true}
use Rattle.priors.proofs.Fields.{word_drop, word_take}
use Rattle.entries.specs.Limits.{max_steps}
use Rattle.entries.specs.Keys.{end_key, child_key}
use Rattle.book.specs.Path.{Steps, steps_of, path_of, whole_path, listed_keys}
use Rattle.book.specs.Figures.{Ranks}
use Rattle.book.specs.Calls.{steps_at}
use Rattle.book.proofs.PathLaws.{length_steps}

-- ---- steps

pub get_d_steps : (s : List ℕ) (n i : ℕ) → i < n → get_or (steps_of s n) i 0 ≡ rank_at s (8 * i)
unfolding steps_of
get_d_steps s zero i h = absurd (not-suc-le-zero h)
get_d_steps s (suc n) zero h = refl
get_d_steps s (suc n) (suc i) h =
    let e : 8 + 8 * i ≡ 8 * suc i = omega arith in
    get_d_steps (drop 8 s) n i (le_of_suc-le-suc h)
    ∙ ap₂ rank (word_drop 8 s (8 * i)) (word_drop 8 s (8 * i + 4) ∙ ap (word s) (sym (add_assoc 8 (8 * i) 4)))
    ∙ ap (rank_at s) e

-- a lent path that is whole
module _ (path : List ℕ) (whole : whole_path path ≡ true) where
  pub path_even : length path % 8 ≡ 0
  unfolding whole_path
  path_even = eqb-true (length path % 8) 0 (first_true (eqb (length path % 8) 0) (leb 1 (length path / 8) && leb (length path / 8) max_steps) whole)

  pub path_low : 1 ≤ length path / 8
  unfolding whole_path
  path_low = leb-true 1 (length path / 8) (first_true (leb 1 (length path / 8)) (leb (length path / 8) max_steps) (second_true (eqb (length path % 8) 0) (leb 1 (length path / 8) && leb (length path / 8) max_steps) whole))

  pub path_high : length path / 8 ≤ 64
  unfolding whole_path
  path_high = leb-true (length path / 8) 64 (second_true (leb 1 (length path / 8)) (leb (length path / 8) max_steps) (second_true (eqb (length path % 8) 0) (leb 1 (length path / 8) && leb (length path / 8) max_steps) whole))

  pub path_length : length path ≤ 512
  path_length = omega (arith, path_even, path_high)

-- the steps that lie in a place are those of the part that holds them
steps_part : (s : List ℕ) (m n : ℕ) → 8 * n ≤ m → steps_of (take m s) n ≡ steps_of s n
steps_part s m n h =
    let len : length (steps_of (take m s) n) ≡ n = length_steps (take m s) n in
    ext_get_or 0 (steps_of (take m s) n) (steps_of s n) (len ∙ sym (length_steps s n)) (λ i l. at i (omega arith))
  where
    at : (i : ℕ) → i < n → get_or (steps_of (take m s) n) i 0 ≡ get_or (steps_of s n) i 0
    at i l =
        get_d_steps (take m s) n i l
        ∙ ap₂ rank (word_take m s (8 * i) (omega arith)) (word_take m s (8 * i + 4) (omega arith))
        ∙ sym (get_d_steps s n i l)

pub part_steps : (queue : List ℕ) (a : ℕ) → a + 4 + 8 * word queue a ≤ length queue → path_of (take (8 * word queue a) (drop (a + 4) queue)) ≡ steps_at queue a
part_steps queue a h =
    let n : ℕ = word queue a in
    let len : length (take (8 * n) (drop (a + 4) queue)) ≡ 8 * n = simp (length-take, length-drop) (omega arith) in
    let eighth : 8 * n / 8 ≡ n = omega arith in
    ap (λ (k : ℕ). steps_of (take (8 * n) (drop (a + 4) queue)) (k / 8)) len
    ∙ ap (steps_of (take (8 * n) (drop (a + 4) queue))) eighth
    ∙ steps_part (drop (a + 4) queue) (8 * n) n (omega arith)

-- ---- the keys that a path lists

pub length_listed : (p : Steps) → 1 ≤ length p → length (listed_keys p) + 1 ≡ 2 * length p
unfolding listed_keys
length_listed [] h = absurd (not-suc-le-zero h)
length_listed (a ∷ []) h = refl
length_listed (a ∷ b ∷ p) h = omega (arith, length_listed (b ∷ p) (omega arith))

pub listed_ending : (p : Steps) (i : ℕ) → i < length p → get_or (listed_keys p) (2 * i) 0 ≡ end_key (get_or p i 0)
unfolding listed_keys
listed_ending [] i h = absurd (not-suc-le-zero h)
listed_ending (a ∷ []) zero h = refl
listed_ending (a ∷ []) (suc i) h = absurd (omega arith)
listed_ending (a ∷ b ∷ p) zero h = refl
listed_ending (a ∷ b ∷ p) (suc i) h =
    let e : 2 * suc i ≡ suc (suc (2 * i)) = omega arith in
    rw e (listed_ending (b ∷ p) i (omega arith))

pub listed_child : (p : Steps) (i : ℕ) → i + 1 < length p → get_or (listed_keys p) (2 * i + 1) 0 ≡ child_key (get_or p i 0) (get_or p (i + 1) 0)
unfolding listed_keys
listed_child [] i h = absurd (not-suc-le-zero h)
listed_child (a ∷ []) i h = absurd (omega arith)
listed_child (a ∷ b ∷ p) zero h = refl
listed_child (a ∷ b ∷ p) (suc i) h =
    let e : 2 * suc i + 1 ≡ suc (suc (2 * i + 1)) = omega arith in
    let f : suc i + 1 ≡ suc (i + 1) = omega arith in
    rw (e, f) (listed_child (b ∷ p) i (omega arith))

-- the same by the number of a key
pub listed_even : (p : Steps) (j : ℕ) → j % 2 ≡ 0 → j + 1 < 2 * length p → get_or (listed_keys p) j 0 ≡ end_key (get_or p (j / 2) 0)
listed_even p j e h =
    let at : j ≡ 2 * (j / 2) = omega arith in
    ap (λ (k : ℕ). get_or (listed_keys p) k 0) at ∙ listed_ending p (j / 2) (omega arith)

pub listed_odd : (p : Steps) (j : ℕ) → (j % 2 ≡ 0 → ⊥) → j + 1 < 2 * length p → get_or (listed_keys p) j 0 ≡ child_key (get_or p (j / 2) 0) (get_or p (j / 2 + 1) 0)
listed_odd p j e h =
    let at : j ≡ 2 * (j / 2) + 1 = omega arith in
    ap (λ (k : ℕ). get_or (listed_keys p) k 0) at ∙ listed_child p (j / 2) (omega arith)

pub ranks_at : (p : Steps) (i : ℕ) → i < length p → Ranks p → get_or p i 0 < 2 ^ 64
ranks_at [] i h r = absurd (not-suc-le-zero h)
ranks_at (a ∷ p) zero h r = r.0
ranks_at (a ∷ p) (suc i) h r = ranks_at p i (le_of_suc-le-suc h) r.1
