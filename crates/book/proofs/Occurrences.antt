-- How often a key stands in joined lists, and in what paths count and list. `occ_nil` and `occ_cons` turn a count into a sum that `omega` adds up, so that the
-- definition stays shut everywhere else. Assumes nothing.
use mathlib.Core.Path.{◌≡◌, refl, ap}
use Prim.Native.Nat.{ℕ, suc, ◌+◌, ◌≤◌}
use mathlib.Core.List.{List, [], ◌∷◌, ◌++◌, flat_map, append-nil}
use mathlib.Core.Bool.{Bool, true, false, cond}
use native.Mathlib.Omega.{arith}
use lib.Dec.{eqb}
use lib.ListN.{take, drop, take-append-drop}
use Rattle.entries.specs.Keys.{end_key, child_key}
use Rattle.book.specs.Path.{Steps, listed_keys, counted_keys}
use Rattle.book.specs.Recount.{occurrences}

-- whether x is k, as a number
abbrev pub hit : ℕ → ℕ → ℕ
hit k x = cond (eqb k x) 1 0

pub occ_nil : (k : ℕ) → occurrences k [] ≡ 0
unfolding occurrences
occ_nil k = refl

pub occ_cons : (k x : ℕ) (xs : List ℕ) → occurrences k (x ∷ xs) ≡ hit k x + occurrences k xs
unfolding occurrences
occ_cons k x xs = go (eqb k x)
  where
    go : (b : Bool) → cond b (suc (occurrences k xs)) (occurrences k xs) ≡ cond b 1 0 + occurrences k xs
    go true = omega arith
    go false = omega arith

pub occ_append : (k : ℕ) (xs ys : List ℕ) → occurrences k (xs ++ ys) ≡ occurrences k xs + occurrences k ys
occ_append k [] ys = omega (arith, occ_nil k)
occ_append k (x ∷ xs) ys = omega (arith, occ_cons k x xs, occ_cons k x (xs ++ ys), occ_append k xs ys)

-- what a path counts it lists, as often at least
pub counted_listed : (k : ℕ) (p : Steps) → occurrences k (counted_keys p) ≤ occurrences k (listed_keys p)
unfolding listed_keys counted_keys
counted_listed k [] = omega arith
counted_listed k (a ∷ []) = omega (arith, occ_nil k, occ_cons k (end_key a) [])
counted_listed k (a ∷ b ∷ p) =
    omega (arith, occ_cons k (child_key a b) (counted_keys (b ∷ p)), occ_cons k (end_key a) (child_key a b ∷ listed_keys (b ∷ p)), occ_cons k (child_key a b) (listed_keys (b ∷ p)), counted_listed k (b ∷ p))

-- ---- over a list of paths

module _ (f : Steps → List ℕ) (k : ℕ) where
  pub occ_paths : (G H : List Steps) → occurrences k (flat_map f (G ++ H)) ≡ occurrences k (flat_map f G) + occurrences k (flat_map f H)
  unfolding flat_map
  occ_paths [] H = omega (arith, occ_nil k)
  occ_paths (p ∷ G) H = omega (arith, occ_append k (f p) (flat_map f (G ++ H)), occ_append k (f p) (flat_map f G), occ_paths G H)

  pub occ_one : (p : Steps) → occurrences k (flat_map f (p ∷ [])) ≡ occurrences k (f p)
  unfolding flat_map
  occ_one p = ap (occurrences k) (append-nil (f p))

  pub occ_drop : (n : ℕ) (H : List Steps) → occurrences k (flat_map f (drop n H)) ≤ occurrences k (flat_map f H)
  occ_drop n H =
      let all : occurrences k (flat_map f (take n H ++ drop n H)) ≡ occurrences k (flat_map f H) = rw take-append-drop in
      omega (arith, occ_paths (take n H) (drop n H))

-- what paths count they list, as often at least
pub counted_listed_all : (k : ℕ) (H : List Steps) → occurrences k (flat_map counted_keys H) ≤ occurrences k (flat_map listed_keys H)
unfolding flat_map
counted_listed_all k [] = omega arith
counted_listed_all k (p ∷ H) =
    omega (arith, occ_append k (counted_keys p) (flat_map counted_keys H), occ_append k (listed_keys p) (flat_map listed_keys H), counted_listed k p, counted_listed_all k H)
