-- The law that carries everything: two ascending lists of rows in which every look-up agrees are equal.
-- Two first rows with different keys differ in the look-up of the lower of the two. Where the keys are the same, so are the
-- counts, and a look-up in the rests is one in the whole for a key above the first, and finds nothing for any other. Assumes nothing.
use mathlib.Core.Path.{◌≡◌, refl, sym, ◌∙◌}
use Prim.Native.Nat.{ℕ, suc, ◌≤◌, ◌<◌}
use mathlib.Core.List.{List, [], ◌∷◌}
use Rattle.std.specs.Prelude.{Option, None, Some}
use native.Mathlib.Omega.{arith}
use Rattle.priors.specs.Rows.{Row, keys, Ascends, look}
use Rattle.priors.proofs.Orders.{Side, below, same, above, side, compare_lt, compare_gt, compare_self}

-- the first row is found
pub look_first : (r : Row) (rs : List Row) → look r.key (r ∷ rs) ≡ Some r.count
unfolding look
look_first r rs = rw (compare_self r.key)

-- a key above the first is looked for in the rest
pub look_rest : (k : ℕ) (r : Row) (rs : List Row) → r.key < k → look k (r ∷ rs) ≡ look k rs
unfolding look
look_rest k r rs l = rw (compare_gt k r.key l)

-- a key below all is not found
pub look_low : (k a : ℕ) (rs : List Row) → k < a → Ascends a (keys rs) → look k rs ≡ None
unfolding look
look_low k a [] l h = refl
look_low k a (r ∷ rs) l h = rw (compare_lt k r.key (omega arith))

-- what is found is not missing
pub never : (c : ℕ) (o : Option ℕ) → o ≡ Some c → o ≡ None → ⊥
never c o p q = let z : ◌≡◌ {A = ℕ} 0 1 = cc in omega arith

same_row : (r s : Row) → r.key ≡ s.key → r.count ≡ s.count → r ≡ s
same_row r s p q = λ i. record { key = p i; count = q i }

pub ext : (a : ℕ) (xs ys : List Row) → Ascends a (keys xs) → Ascends a (keys ys) → ((k : ℕ) → look k xs ≡ look k ys) → xs ≡ ys
ext a [] [] p q h = refl
ext a [] (y ∷ ys) p q h = absurd (never _ _ (h y.key ∙ look_first y ys) (look_low y.key (suc y.key) [] (omega arith) tt))
ext a (x ∷ xs) [] p q h = absurd (never _ _ (look_first x xs) (h x.key ∙ look_low x.key (suc x.key) [] (omega arith) tt))
ext a (x ∷ xs) (y ∷ ys) p q h = go (side x.key y.key) (ext (suc x.key) xs ys p.1)
  where
    go : Side x.key y.key → (Ascends (suc x.key) (keys ys) → ((k : ℕ) → look k xs ≡ look k ys) → xs ≡ ys) → x ∷ xs ≡ y ∷ ys
    go (below l e) ih = absurd (never _ _ (look_first x xs) (h x.key ∙ look_low x.key y.key (y ∷ ys) l (omega arith, q.1)))
    go (above l e) ih = absurd (never _ _ (look_first y ys) (sym (h y.key) ∙ look_low y.key x.key (x ∷ xs) l (omega arith, p.1)))
    go (same k-is e) ih =
        let counts : Some x.count ≡ Some y.count = sym (look_first x xs) ∙ h x.key ∙ rw k-is (look_first y ys) in
        let first : x ≡ y = same_row x y k-is cc in
        let rest : xs ≡ ys = ih (rw k-is q.1) (λ k. agree k (side x.key k)) in
        cc
      where
        neither : (k : ℕ) → k ≤ x.key → look k xs ≡ look k ys
        neither k l = look_low k (suc x.key) xs (omega arith) p.1 ∙ sym (look_low k (suc y.key) ys (omega arith) q.1)

        agree : (k : ℕ) → Side x.key k → look k xs ≡ look k ys
        agree k (below l e) = sym (look_rest k x xs l) ∙ h k ∙ look_rest k y ys (omega arith)
        agree k (same m e) = neither k (omega arith)
        agree k (above l e) = neither k (omega arith)
