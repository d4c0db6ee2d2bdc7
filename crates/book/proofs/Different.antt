-- How many different ones a list holds: at most as many as it is long, and some where it holds any; and what is entered into an empty list, each once, is as many as
-- there are different ones. Assumes nothing.
use mathlib.Core.Path.{◌≡◌, refl, ap, ◌∙◌}
use mathlib.Core.Logic.{⊎_elim}
use Prim.Native.Nat.{ℕ, suc, ◌+◌, ◌≤◌}
use native.Mathlib.Omega.{arith}
use mathlib.Core.List.{List, [], ◌∷◌, ◌++◌}
use mathlib.Core.Bool.{Bool, true, false, cond, ◌||◌}
use lib.Dec.{eqb}
use lib.ListN.{length}
use Rattle.priors.specs.Rows.{Ascends}
use Rattle.book.specs.Recount.{enter, enter_all}
use Rattle.book.specs.Memory.{among, different}
use Rattle.priors.proofs.Orders.{Alike, alike, unlike, compared, Side, below, same, above, side}
use Rattle.priors.proofs.Tests.{answers_same}
use Rattle.book.proofs.ManyRows.{enter_all-append, ascends_entered}
use Rattle.book.proofs.Membership.{In, in_tail, in_head, in_cons, in_append, in_left, in_right, in_none, in_above, enter_all-in, in_entered, entered_same}

-- ---- of any kind

module _ {X : Type 0} (same : X → X → Bool) where
  at_most_one : (t : Bool) → cond t 0 1 ≤ 1
  at_most_one true = omega arith
  at_most_one false = omega arith

  pub different_le : (xs : List X) → different same xs ≤ length xs
  unfolding different
  different_le [] = omega arith
  different_le (x ∷ xs) = omega (arith, at_most_one (among same x xs), different_le xs)

  pub different_some : (x : X) (xs : List X) → 1 ≤ different same (x ∷ xs)
  unfolding different among
  different_some x [] = omega arith
  different_some x (y ∷ ys) = omega (arith, different_some y ys)

-- ---- of numbers

-- to be among them is to stand there
among_in : (k : ℕ) (xs : List ℕ) → among eqb k xs ≡ true → In k xs
unfolding among
among_in k [] h = let z : ◌≡◌ {A = ℕ} 0 1 = cc in absurd (omega arith)
among_in k (x ∷ xs) h = go (compared k x) (among_in k xs)
  where
    go : Alike k x → (among eqb k xs ≡ true → In k xs) → In k (x ∷ xs)
    go (alike q e) ih = in_head k x xs q
    go (unlike q e) ih = in_tail k x xs (ih (rw e at h))

in_among : (k : ℕ) (xs : List ℕ) → In k xs → among eqb k xs ≡ true
unfolding among
in_among k [] h = in_none k h
in_among k (x ∷ xs) h = go (compared k x) (in_among k xs)
  where
    go : Alike k x → (In k xs → among eqb k xs ≡ true) → eqb k x || among eqb k xs ≡ true
    go (alike q e) ih = rw e
    go (unlike q e) ih = rw e (ih (⊎_elim (λ c. absurd (q c)) (λ i. i) (in_cons k x xs h)))

among_same : (k : ℕ) (xs ys : List ℕ) → (In k xs → In k ys) → (In k ys → In k xs) → among eqb k xs ≡ among eqb k ys
among_same k xs ys f g = answers_same _ _ (λ h. in_among k ys (f (among_in k xs h))) (λ h. in_among k xs (g (among_in k ys h)))

-- what is below all of an ascending list is not among it
not_among : (a k : ℕ) (xs : List ℕ) → Ascends a xs → suc k ≤ a → among eqb k xs ≡ false
not_among a k xs h l = go (among eqb k xs) refl
  where
    go : (t : Bool) → among eqb k xs ≡ t → t ≡ false
    go true e = absurd (omega (arith, in_above a k xs h (among_in k xs e)))
    go false e = refl

-- ---- entering

-- into an ascending list: one more, unless it is there
length_enter : (a k : ℕ) (xs : List ℕ) → Ascends a xs → length (enter k xs) ≡ cond (among eqb k xs) 0 1 + length xs
unfolding enter among
length_enter a k [] h = refl
length_enter a k (x ∷ xs) h = go (side k x) (length_enter (suc x) k xs h.1)
  where
    go : Side k x → length (enter k xs) ≡ cond (among eqb k xs) 0 1 + length xs → length (enter k (x ∷ xs)) ≡ cond (among eqb k (x ∷ xs)) 0 1 + length (x ∷ xs)
    go (below l e) ih = rw (e, not_among (suc x) k xs h.1 (omega arith)) (omega arith)
    go (same q e) ih = rw e (omega arith)
    go (above l e) ih = rw e (omega (arith, ih))

-- the first key may as well be entered last
first_last : (k : ℕ) (ks : List ℕ) → enter_all (k ∷ ks) [] ≡ enter_all (ks ++ k ∷ []) []
first_last k ks =
    entered_same (k ∷ ks) (ks ++ k ∷ [])
    (λ j i. ⊎_elim (λ q. in_right j ks (k ∷ []) (in_head j k [] q)) (in_left j ks (k ∷ [])) (in_cons j k ks i))
    (λ j i. ⊎_elim (in_tail j k ks) (λ m. ⊎_elim (in_head j k ks) (in_none j) (in_cons j k [] m)) (in_append j ks (k ∷ []) i))

pub length_entered : (ks : List ℕ) → length (enter_all ks []) ≡ different eqb ks
unfolding different enter_all
length_entered [] = refl
length_entered (k ∷ ks) =
    ap length (first_last k ks ∙ enter_all-append ks (k ∷ []) [])
    ∙ length_enter 0 k (enter_all ks []) (ascends_entered ks)
    ∙ rw (among_same k (enter_all ks []) ks (in_entered k ks) (enter_all-in k ks [])) (omega (arith, length_entered ks))
