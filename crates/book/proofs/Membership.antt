-- What stands in a list, told by how often it does; in joined lists, in ascending lists, and in a listing that keys were entered into. Ascending lists with the same
-- members are equal. Assumes nothing.
use mathlib.Core.Path.{◌≡◌, refl, ◌∙◌}
use mathlib.Core.Logic.{◌⊎◌, inl, inr, ⊎_elim}
use Prim.Native.Nat.{ℕ, zero, suc, ◌≤◌, ◌<◌}
use native.Mathlib.Omega.{arith}
use mathlib.Core.List.{List, [], ◌∷◌, ◌++◌, flat_map}
use borrow.Author.Tests.{eq-eqb}
use Rattle.priors.specs.Rows.{Ascends}
use Rattle.book.specs.Path.{Steps, listed_keys}
use Rattle.book.specs.Recount.{occurrences, enter, enter_all, listing}
use Rattle.priors.proofs.Orders.{Alike, alike, unlike, compared, Side, below, same, above, side}
use Rattle.book.proofs.ManyRows.{ascends_entered}
use Rattle.book.proofs.Occurrences.{hit, occ_nil, occ_cons, occ_append}

-- k stands in the list
abbrev pub In : ℕ → List ℕ → Type 0
In k ks = 0 < occurrences k ks

-- ---- membership, by cases

pub in_tail : (k x : ℕ) (ks : List ℕ) → In k ks → In k (x ∷ ks)
in_tail k x ks h = omega (arith, occ_cons k x ks)

pub in_head : (k x : ℕ) (ks : List ℕ) → k ≡ x → In k (x ∷ ks)
unfolding occurrences
in_head k x ks q = rw (eq-eqb k x q) (omega arith)

pub in_cons : (k x : ℕ) (ks : List ℕ) → In k (x ∷ ks) → (k ≡ x) ⊎ In k ks
unfolding occurrences
in_cons k x ks h = go (compared k x)
  where
    go : Alike k x → (k ≡ x) ⊎ In k ks
    go (alike q e) = inl q
    go (unlike q e) = inr (rw e at h)

pub in_append : (k : ℕ) (xs ys : List ℕ) → In k (xs ++ ys) → In k xs ⊎ In k ys
in_append k xs ys h = go (occurrences k xs) refl
  where
    go : (n : ℕ) → occurrences k xs ≡ n → In k xs ⊎ In k ys
    go zero e = inr (omega (arith, occ_append k xs ys))
    go (suc n) e = inl (omega arith)

pub in_left : (k : ℕ) (xs ys : List ℕ) → In k xs → In k (xs ++ ys)
in_left k xs ys h = omega (arith, occ_append k xs ys)

pub in_right : (k : ℕ) (xs ys : List ℕ) → In k ys → In k (xs ++ ys)
in_right k xs ys h = omega (arith, occ_append k xs ys)

pub in_none : {X : Type 0} (k : ℕ) → In k [] → X
in_none k h = absurd (omega (arith, occ_nil k))

-- what stands in an ascending list is not below its bound
pub in_above : (a k : ℕ) (ks : List ℕ) → Ascends a ks → In k ks → a ≤ k
in_above a k [] h i = in_none k i
in_above a k (x ∷ ks) h i = go (in_cons k x ks i) (in_above (suc x) k ks h.1)
  where
    go : (k ≡ x) ⊎ In k ks → (In k ks → suc x ≤ k) → a ≤ k
    go (inl q) ih = omega arith
    go (inr m) ih = omega (arith, ih m)

-- and it stands there once
pub once : (a k : ℕ) (ks : List ℕ) → Ascends a ks → In k ks → occurrences k ks ≡ 1
once a k [] h i = in_none k i
once a k (x ∷ ks) h i = go (compared k x) (once (suc x) k ks h.1)
  where
    none_left : (n : ℕ) → occurrences k ks ≡ n → k ≡ x → occurrences k ks ≡ 0
    none_left zero e q = e
    none_left (suc n) e q = absurd (omega (arith, in_above (suc x) k ks h.1 (omega arith)))

    go : Alike k x → (In k ks → occurrences k ks ≡ 1) → occurrences k (x ∷ ks) ≡ 1
    go (alike q e) ih = occ_cons k x ks ∙ rw e (omega (arith, none_left (occurrences k ks) refl q))
    go (unlike q e) ih = let z : hit k x ≡ 0 = rw e in omega (arith, occ_cons k x ks, ih (omega (arith, occ_cons k x ks)))

-- ---- what entering keys lists

in_enter : (j k : ℕ) (xs : List ℕ) → In j (enter k xs) → (j ≡ k) ⊎ In j xs
unfolding enter
in_enter j k [] h = in_cons j k [] h
in_enter j k (x ∷ xs) h = go (side k x) h (in_enter j k xs)
  where
    go : Side k x → In j (enter k (x ∷ xs)) → (In j (enter k xs) → (j ≡ k) ⊎ In j xs) → (j ≡ k) ⊎ In j (x ∷ xs)
    go (below l e) h ih = in_cons j k (x ∷ xs) (rw e at h)
    go (same q e) h ih = inr (rw e at h)
    go (above l e) h ih = ⊎_elim (λ q. inr (in_head j x xs q)) (λ m. ⊎_elim inl (λ n. inr (in_tail j x xs n)) (ih m)) (in_cons j x (enter k xs) (rw e at h))

enter_in : (k : ℕ) (xs : List ℕ) → In k (enter k xs)
unfolding enter
enter_in k [] = in_head k k [] refl
enter_in k (x ∷ xs) = go (side k x) (enter_in k xs)
  where
    go : Side k x → In k (enter k xs) → In k (enter k (x ∷ xs))
    go (below l e) ih = rw e (in_head k k (x ∷ xs) refl)
    go (same q e) ih = rw e (in_head k x xs q)
    go (above l e) ih = rw e (in_tail k x (enter k xs) ih)

enter_keeps : (j k : ℕ) (xs : List ℕ) → In j xs → In j (enter k xs)
unfolding enter
enter_keeps j k [] h = in_none j h
enter_keeps j k (x ∷ xs) h = go (side k x) (enter_keeps j k xs)
  where
    go : Side k x → (In j xs → In j (enter k xs)) → In j (enter k (x ∷ xs))
    go (below l e) ih = rw e (in_tail j k (x ∷ xs) h)
    go (same q e) ih = rw e h
    go (above l e) ih = rw e (⊎_elim (λ q. in_head j x (enter k xs) q) (λ m. in_tail j x (enter k xs) (ih m)) (in_cons j x xs h))

in-enter_all : (j : ℕ) (ks xs : List ℕ) → In j (enter_all ks xs) → In j ks ⊎ In j xs
unfolding enter_all
in-enter_all j [] xs h = inr h
in-enter_all j (k ∷ ks) xs h = ⊎_elim (λ m. inl (in_tail j k ks m)) (λ m. ⊎_elim (λ q. inl (in_head j k ks q)) inr (in_enter j k xs m)) (in-enter_all j ks (enter k xs) h)

enter_all-keeps : (j : ℕ) (ks xs : List ℕ) → In j xs → In j (enter_all ks xs)
unfolding enter_all
enter_all-keeps j [] xs h = h
enter_all-keeps j (k ∷ ks) xs h = enter_all-keeps j ks (enter k xs) (enter_keeps j k xs h)

pub enter_all-in : (j : ℕ) (ks xs : List ℕ) → In j ks → In j (enter_all ks xs)
unfolding enter_all
enter_all-in j [] xs h = in_none j h
enter_all-in j (k ∷ ks) xs h = go (in_cons j k ks h) (enter_all-in j ks (enter k xs))
  where
    go : (j ≡ k) ⊎ In j ks → (In j ks → In j (enter_all ks (enter k xs))) → In j (enter_all ks (enter k xs))
    go (inl q) ih = enter_all-keeps j ks (enter k xs) (rw q (enter_in k xs))
    go (inr m) ih = ih m

-- into an empty list: what was entered and nothing else
pub in_entered : (k : ℕ) (ks : List ℕ) → In k (enter_all ks []) → In k ks
in_entered k ks h = ⊎_elim (λ i. i) (λ i. in_none k i) (in-enter_all k ks [] h)

-- a key is in the listing just where some path lists it
pub in_listing : (H : List Steps) (k : ℕ) → In k (listing H) → In k (flat_map listed_keys H)
unfolding listing
in_listing H k m = in_entered k (flat_map listed_keys H) m

pub listing_in : (H : List Steps) (k : ℕ) → In k (flat_map listed_keys H) → In k (listing H)
unfolding listing
listing_in H k m = enter_all-in k (flat_map listed_keys H) [] m

-- ---- two ascending lists with the same members are equal

pub same_members : (a : ℕ) (xs ys : List ℕ) → Ascends a xs → Ascends a ys → ((k : ℕ) → In k xs → In k ys) → ((k : ℕ) → In k ys → In k xs) → xs ≡ ys
same_members a [] [] p q f g = refl
same_members a [] (y ∷ ys) p q f g = in_none y (g y (in_head y y ys refl))
same_members a (x ∷ xs) [] p q f g = in_none x (f x (in_head x x xs refl))
same_members a (x ∷ xs) (y ∷ ys) p q f g = go (side x y) (same_members (suc x) xs ys p.1)
  where
    go : Side x y → (Ascends (suc x) ys → ((k : ℕ) → In k xs → In k ys) → ((k : ℕ) → In k ys → In k xs) → xs ≡ ys) → x ∷ xs ≡ y ∷ ys
    go (below l e) ih = absurd (omega (arith, in_above y x (y ∷ ys) (omega arith, q.1) (f x (in_head x x xs refl))))
    go (above l e) ih = absurd (omega (arith, in_above x y (x ∷ xs) (omega arith, p.1) (g y (in_head y y ys refl))))
    go (same d e) ih = let rest : xs ≡ ys = ih (rw d q.1) there back in cc
      where
        there : (k : ℕ) → In k xs → In k ys
        there k i = ⊎_elim (λ c. absurd (omega (arith, in_above (suc x) k xs p.1 i))) (λ m. m) (in_cons k y ys (f k (in_tail k x xs i)))

        back : (k : ℕ) → In k ys → In k xs
        back k i = ⊎_elim (λ c. absurd (omega (arith, in_above (suc y) k ys q.1 i))) (λ m. m) (in_cons k x xs (g k (in_tail k y ys i)))

-- so what two lists with the same members enter is equal
pub entered_same : (ks js : List ℕ) → ((k : ℕ) → In k ks → In k js) → ((k : ℕ) → In k js → In k ks) → enter_all ks [] ≡ enter_all js []
entered_same ks js f g =
    same_members 0 (enter_all ks []) (enter_all js []) (ascends_entered ks) (ascends_entered js)
    (λ k i. enter_all-in k js [] (f k (in_entered k ks i))) (λ k i. enter_all-in k ks [] (g k (in_entered k js i)))
