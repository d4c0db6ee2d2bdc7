-- The window part where one more path joins: what leaves, and then the new window part, are the old one and the new path.
-- So whatever is counted over the window part loses what the leaving path counts and gains what the new one does. Paths that end with the window part list all that it
-- counts. Assumes nothing.
use mathlib.Core.Path.{◌≡◌, refl, ◌∙◌}
use Prim.Native.Nat.{ℕ, zero, suc, ◌+◌, ◌-◌, ◌≤◌, ◌<◌}
use mathlib.Core.List.{List, [], ◌∷◌, ◌++◌, flat_map}
use Rattle.std.specs.Prelude.{Option, None, Some}
use mathlib.Core.Bool.{Bool, true, false, cond}
use native.Mathlib.Omega.{arith}
use lib.Dec.{leb}
use lib.ListN.{length, get_or, take, drop, length-append, length-drop}
use lib.Seq.{drop-cons, drop-append-le}
use borrow.Author.Tests.{leb-true, leb-false}
use Rattle.book.specs.Path.{Steps, listed_keys, counted_keys}
use Rattle.book.specs.Changes.{left_keys}
use Rattle.book.specs.Recount.{occurrences, window_part, sequence_length, counted}
use Rattle.book.specs.Figures.{in_window, All}
use Rattle.book.proofs.Passes.{leaving_path}
use Rattle.book.proofs.Occurrences.{occ_paths, occ_one, occ_drop, counted_listed_all}

-- the path that leaves, as a list of one path or none
abbrev pub left : Option Steps → List Steps
left None = []
left (Some l) = l ∷ []

pub window_step : (W : ℕ) (H : List Steps) (p : Steps) → left (leaving_path W H) ++ window_part W (H ++ p ∷ []) ≡ window_part W H ++ p ∷ []
unfolding leaving_path window_part
window_step zero H p = refl
window_step (suc w) H p = go (leb (suc w) (length H)) refl
  where
    n : ℕ
    n = length H

    len : length (H ++ p ∷ []) ≡ suc n
    len = length-append H (p ∷ []) ∙ omega arith

    go : (b : Bool) → leb (suc w) n ≡ b → left (cond b (Some (get_or H (n - suc w) [])) None) ++ drop (length (H ++ p ∷ []) - suc w) (H ++ p ∷ []) ≡ drop (n - suc w) H ++ p ∷ []
    go true t =
        let l : suc w ≤ n = leb-true (suc w) n t in
        let at : length (H ++ p ∷ []) - suc w ≡ suc (n - suc w) = omega (arith, len) in
        let rest : drop (suc (n - suc w)) (H ++ p ∷ []) ≡ drop (suc (n - suc w)) H ++ p ∷ [] = drop-append-le (suc (n - suc w)) H (p ∷ []) (omega arith) in
        let first : drop (n - suc w) H ≡ get_or H (n - suc w) [] ∷ drop (suc (n - suc w)) H = drop-cons H (n - suc w) [] (omega arith) in
        rw (at, rest, first)
    go false t =
        let l : n < suc w = leb-false (suc w) n t in
        let at : length (H ++ p ∷ []) - suc w ≡ 0 = omega (arith, len) in
        let before : n - suc w ≡ 0 = omega arith in
        rw (at, before)

left_keys_lem : (k : ℕ) (o : Option Steps) → occurrences k (flat_map counted_keys (left o)) ≡ occurrences k (left_keys o)
unfolding flat_map
left_keys_lem k None = refl
left_keys_lem k (Some l) = occ_one counted_keys k l

-- how often a key is counted, before and after
pub counted_step : (W : ℕ) (H : List Steps) (p : Steps) (k : ℕ)
    → occurrences k (left_keys (leaving_path W H)) + counted W (H ++ p ∷ []) k ≡ counted W H k + occurrences k (counted_keys p)
unfolding counted
counted_step W H p k =
    let whole : occurrences k (flat_map counted_keys (left (leaving_path W H) ++ window_part W (H ++ p ∷ []))) ≡ occurrences k (flat_map counted_keys (window_part W H ++ p ∷ [])) = rw window_step in
    omega (arith, occ_paths counted_keys k (left (leaving_path W H)) (window_part W (H ++ p ∷ [])), occ_paths counted_keys k (window_part W H) (p ∷ []), occ_one counted_keys k p, left_keys_lem k (leaving_path W H))

-- the window part of H is L without its first paths
abbrev pub EndsWith : ℕ → List Steps → List Steps → Type 0
EndsWith W H L = (n : ℕ) × (window_part W H ≡ drop n L)

-- so with L as H: all but the last W
pub window_drop : (W : ℕ) (H : List Steps) → EndsWith W H H
unfolding window_part
window_drop zero H = (0, refl)
window_drop (suc w) H = (length H - suc w, refl)

-- what holds of each path holds of the last ones
pub all_drop : {X : Type 0} (P : X → Type 0) (n : ℕ) (xs : List X) → All P xs → All P (drop n xs)
all_drop P zero xs h = h
all_drop P (suc n) [] h = h
all_drop P (suc n) (x ∷ xs) h = all_drop P n xs h.1

pub all_take : {X : Type 0} (P : X → Type 0) (n : ℕ) (xs : List X) → All P xs → All P (take n xs)
all_take P zero xs h = tt
all_take P (suc n) [] h = tt
all_take P (suc n) (x ∷ xs) h = (h.0, all_take P n xs h.1)

-- what the window part counts is listed
pub counted_le : (W : ℕ) (H L : List Steps) → EndsWith W H L → (k : ℕ) → counted W H k ≤ occurrences k (flat_map listed_keys L)
unfolding counted
counted_le W H L d k = rw d.1 (omega (arith, occ_drop counted_keys k d.0 L, counted_listed_all k L))

-- ---- the sequence length, from the window and the number of paths

pub sequence_length_lem : (W : ℕ) (H : List Steps) → sequence_length W H ≡ in_window W (length H)
unfolding sequence_length window_part
sequence_length_lem zero H = refl
sequence_length_lem (suc w) H = length-drop (length H - suc w) H ∙ omega arith
