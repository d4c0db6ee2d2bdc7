-- How much a row counts at most, and what rows count together. Assumes nothing.
use mathlib.Core.Path.{◌≡◌, refl, sym, ap, ◌∙◌}
use Prim.Native.Nat.{ℕ, zero, suc, ◌+◌, ◌*◌, ◌≤◌}
use native.Mathlib.Omega.{arith}
use mathlib.Core.List.{List, [], ◌∷◌, map, flat_map}
use mathlib.Core.Bool.{Bool, true, false, cond}
use lib.Dec.{eqb}
use lib.ListN.{length, drop, length-append}
use borrow.Author.Tests.{ne_eqb}
use Rattle.priors.specs.Rows.{row}
use Rattle.priors.specs.Priors.{count_sum}
use Rattle.book.specs.Path.{Steps, counted_keys}
use Rattle.book.specs.Recount.{occurrences, window_part, counted}
use Rattle.book.specs.Figures.{total, AllWhole}
use Rattle.priors.proofs.Orders.{Alike, alike, unlike, compared}
use Rattle.book.proofs.Occurrences.{hit, occ_nil, occ_cons}
use Rattle.book.proofs.Window.{EndsWith, window_drop}
use Rattle.book.proofs.Membership.{In, in_head, in_tail}

-- ---- lengths of a path's keys

length_counted : (p : Steps) → length (counted_keys p) ≡ length p
unfolding counted_keys
length_counted [] = refl
length_counted (a ∷ []) = refl
length_counted (a ∷ b ∷ p) = ap suc (length_counted (b ∷ p))

-- a figure of each path for the number of its keys
pub length_total : {X : Type 0} (f : Steps → List X) (g : Steps → ℕ) → ((p : Steps) → length (f p) ≡ g p) → (H : List Steps) → length (flat_map f H) ≡ total g H
unfolding flat_map total
length_total f g e [] = refl
length_total f g e (p ∷ H) = omega (arith, length-append (f p) (flat_map f H), e p, length_total f g e H)

pub counted_steps : (H : List Steps) → length (flat_map counted_keys H) ≡ total length H
counted_steps = length_total counted_keys length length_counted

-- ---- what a row counts: at most 64 for each path

occ_length : (k : ℕ) (ks : List ℕ) → occurrences k ks ≤ length ks
unfolding occurrences
occ_length k [] = omega arith
occ_length k (x ∷ ks) = go (eqb k x) (occ_length k ks)
  where
    go : (b : Bool) → occurrences k ks ≤ length ks → cond b (suc (occurrences k ks)) (occurrences k ks) ≤ suc (length ks)
    go true ih = omega arith
    go false ih = omega arith

total_whole : (H : List Steps) → AllWhole H → total length H ≤ 64 * length H
unfolding total
total_whole [] h = omega arith
total_whole (p ∷ H) h = omega (arith, total_whole H h.1)

-- a figure of the window part is not above that of paths that end with it
module _ (f : Steps → ℕ) where
  total_drop : (n : ℕ) (H : List Steps) → total f (drop n H) ≤ total f H
  unfolding total
  total_drop zero H = omega arith
  total_drop (suc n) [] = omega arith
  total_drop (suc n) (p ∷ H) = omega (arith, total_drop n H)

  pub total_window : (W : ℕ) (H L : List Steps) → EndsWith W H L → total f (window_part W H) ≤ total f L
  total_window W H L d = rw d.1 (total_drop d.0 L)

pub counted_small : (W : ℕ) (H : List Steps) (k : ℕ) → AllWhole H → counted W H k ≤ 64 * length H
unfolding counted
counted_small W H k h = omega (arith, occ_length k (flat_map counted_keys (window_part W H)), counted_steps (window_part W H), total_window length W H H (window_drop W H), total_whole H h)

-- ---- what rows count together that count how often their keys stand in a list, where each that stands there has one row

none_of : (t : Bool) → ◌≡◌ {A = ℕ} (cond t 0 0) 0
none_of true = refl
none_of false = refl

cond_add : (t : Bool) (m n : ℕ) → cond t (m + n) 0 ≡ cond t m 0 + cond t n 0
cond_add true m n = refl
cond_add false m n = refl

module _ (test : ℕ → Bool) where
  -- a figure of each key that passes a test, summed up
  unfoldable pub tested : (ℕ → ℕ) → List ℕ → ℕ
  tested f [] = 0
  tested f (k ∷ ks) = cond (test k) (f k) 0 + tested f ks

  hit_tested : (k x : ℕ) → cond (test k) (hit k x) 0 ≡ cond (test x) (hit x k) 0
  hit_tested k x = go (compared k x)
    where
      go : Alike k x → cond (test k) (hit k x) 0 ≡ cond (test x) (hit x k) 0
      go (alike q e) = rw q
      go (unlike q e) = rw (e, ne_eqb x k (λ d. q (sym d))) (none_of (test k) ∙ sym (none_of (test x)))

  tested_none : (ks : List ℕ) → tested (λ k. occurrences k []) ks ≡ 0
  unfolding tested occurrences
  tested_none [] = refl
  tested_none (k ∷ ks) = omega (arith, none_of (test k), tested_none ks)

  -- one more in the list
  tested_more : (x : ℕ) (xs ks : List ℕ) → tested (λ k. occurrences k (x ∷ xs)) ks ≡ cond (test x) (occurrences x ks) 0 + tested (λ k. occurrences k xs) ks
  unfolding tested
  tested_more x xs [] = omega (arith, ap (λ (n : ℕ). cond (test x) n 0) (occ_nil x), none_of (test x))
  tested_more x xs (k ∷ ks) =
      omega (arith, ap (λ (n : ℕ). cond (test k) n 0) (occ_cons k x xs), cond_add (test k) (hit k x) (occurrences k xs), ap (λ (n : ℕ). cond (test x) n 0) (occ_cons x k ks), cond_add (test x) (hit x k) (occurrences x ks), hit_tested k x, tested_more x xs ks)

  pub tested_once : (ks xs : List ℕ) → ((x : ℕ) → In x xs → occurrences x ks ≡ 1) → tested (λ k. occurrences k xs) ks ≡ tested (λ x. 1) xs
  unfolding tested
  tested_once ks [] h = tested_none ks
  tested_once ks (x ∷ xs) h = omega (arith, tested_more x xs ks, ap (λ (n : ℕ). cond (test x) n 0) (h x (in_head x x xs refl)), tested_once ks xs (λ y i. h y (in_tail y x xs i)))

sum_tested : (f : ℕ → ℕ) (ks : List ℕ) → count_sum (map (λ k. row k (f k)) ks) ≡ tested (λ k. true) f ks
unfolding count_sum tested
sum_tested f [] = refl
sum_tested f (k ∷ ks) = omega (arith, sum_tested f ks)

all_tested : (xs : List ℕ) → tested (λ k. true) (λ k. 1) xs ≡ length xs
unfolding tested
all_tested [] = refl
all_tested (x ∷ xs) = omega (arith, all_tested xs)

-- all of them count as many as the list is long
pub sum_once : (ks xs : List ℕ) → ((x : ℕ) → In x xs → occurrences x ks ≡ 1) → count_sum (map (λ k. row k (occurrences k xs)) ks) ≡ length xs
sum_once ks xs h = sum_tested (λ k. occurrences k xs) ks ∙ tested_once (λ k. true) ks xs h ∙ all_tested xs
