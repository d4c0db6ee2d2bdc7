-- What a list of paths needs is what it lists: the keys that its paths list are part endings, as many different ones as there are nodes, and part children, as many
-- as there are transitions. So it is at most two entries for each step, less one for each path, and the order of the paths does not matter. Assumes nothing.
use mathlib.Core.Path.{◌≡◌, refl, sym, ap, ap₂, ◌∙◌}
use Prim.Native.Nat.{ℕ, suc, ◌+◌, ◌*◌, ◌^◌, ◌≤◌, ◌<◌}
use native.Mathlib.Omega.{arith}
use mathlib.Core.List.{List, [], ◌∷◌, ◌++◌, flat_map, Permᴰ}
use mathlib.Core.Bool.{Bool, false, ◌&&◌, ◌||◌}
use lib.Dec.{eqb}
use lib.ListN.{length, length-append}
use Rattle.entries.specs.Keys.{end_key, child_key}
use Rattle.book.specs.Path.{Steps, listed_keys}
use Rattle.book.specs.Recount.{occurrences, listing}
use Rattle.book.specs.Figures.{All, total, Ranks, AllRanks, AllWhole}
use Rattle.book.specs.Memory.{among, different, pairs, same_pair, least}
use Rattle.priors.proofs.Tests.{same_test}
use Rattle.book.proofs.Occurrences.{occ_append}
use Rattle.book.proofs.Membership.{entered_same}
use Rattle.book.proofs.Different.{different_le, different_some, length_entered}
use Rattle.book.proofs.Sums.{length_total}
use Rattle.book.proofs.Meaning.{end_end, end_child, child_end, child_child}

-- ---- what paths list, in two parts

-- the keys ks are the endings of ns and the children of ps, as far as different ones are counted
record Parted (ks ns : List ℕ) (ps : List (ℕ × ℕ)) : Type 0 where
  endings_are : (a : ℕ) → among eqb (end_key a) ks ≡ among eqb a ns
  children_are : (a b : ℕ) → b < 2 ^ 64 → among eqb (child_key a b) ks ≡ among same_pair (a, b) ps
  sum_is : different eqb ks ≡ different eqb ns + different same_pair ps

module _ {ks ns : List ℕ} {ps : List (ℕ × ℕ)} (d : Parted ks ns ps) where
  one_node : (x : ℕ) → Parted (end_key x ∷ ks) (x ∷ ns) ps
  unfolding among different
  one_node x = record {
    endings_are = λ a. ap₂ (λ (s t : Bool). s || t) (same_test (eqb (end_key a) (end_key x)) (eqb a x) (end_end a x)) (d.endings_are a);
    children_are = λ a b r. rw (same_test (eqb (child_key a b) (end_key x)) false (child_end a b x r)) (d.children_are a b r);
    sum_is = rw (d.endings_are x) (omega (arith, d.sum_is));
  }

  one_pair : (x y : ℕ) → y < 2 ^ 64 → Parted (child_key x y ∷ ks) ns ((x, y) ∷ ps)
  unfolding among different
  one_pair x y h = record {
    endings_are = λ a. rw (same_test (eqb (end_key a) (child_key x y)) false (end_child a x y h)) (d.endings_are a);
    children_are = λ a b r. ap₂ (λ (s t : Bool). s || t) (same_test (eqb (child_key a b) (child_key x y)) (eqb a x && eqb b y) (child_child a b x y r h)) (d.children_are a b r);
    sum_is = rw (d.children_are x y h) (omega (arith, d.sum_is));
  }

one_path_lem : (p : Steps) → Ranks p → {ks ns : List ℕ} {ps : List (ℕ × ℕ)} → Parted ks ns ps → Parted (listed_keys p ++ ks) (p ++ ns) (pairs p ++ ps)
unfolding listed_keys pairs
one_path_lem [] h d = d
one_path_lem (a ∷ []) h d = one_node d a
one_path_lem (a ∷ b ∷ p) h d = one_node (one_pair (one_path_lem (b ∷ p) h.1 d) a b h.1.0) a

parted : (L : List Steps) → AllRanks L → Parted (flat_map listed_keys L) (flat_map (λ (p : Steps). p) L) (flat_map pairs L)
unfolding flat_map among different
parted [] h = record { endings_are = λ a. refl; children_are = λ a b r. refl; sum_is = refl }
parted (p ∷ L) h = one_path_lem p h.0 (parted L h.1)

-- as many entries are listed as are needed
pub listing_least : (L : List Steps) → AllRanks L → length (listing L) ≡ least L
unfolding listing least
listing_least L h = length_entered (flat_map listed_keys L) ∙ (parted L h).sum_is

-- ---- how many that are: at least one, and at most two for each step, less one for each path

pub needs_some : (L : List Steps) → AllWhole L → 1 ≤ length L → 1 ≤ least L
unfolding least flat_map
needs_some [] h n = absurd (omega arith)
needs_some ([] ∷ L) h n = absurd (omega (arith, h.0.0))
needs_some ((a ∷ p) ∷ L) h n = omega (arith, different_some eqb a (p ++ flat_map (λ (q : Steps). q) L))

length_pairs : (p : Steps) → 1 ≤ length p → length (pairs p) + 1 ≡ length p
unfolding pairs
length_pairs [] h = absurd (omega arith)
length_pairs (a ∷ []) h = refl
length_pairs (a ∷ b ∷ p) h = omega (arith, length_pairs (b ∷ p) (omega arith))

pairs_total : (L : List Steps) → AllWhole L → length (flat_map pairs L) + length L ≡ total length L
unfolding flat_map total
pairs_total [] h = refl
pairs_total (p ∷ L) h = omega (arith, length-append (pairs p) (flat_map pairs L), length_pairs p h.0.0, pairs_total L h.1)

pub least_le : (L : List Steps) → AllWhole L → least L + length L ≤ 2 * total length L
unfolding least
least_le L h =
    let nodes : List ℕ = flat_map (λ (p : Steps). p) L in
    omega (arith, different_le eqb nodes, length_total (λ (p : Steps). p) length (λ p. refl) L, different_le same_pair (flat_map pairs L), pairs_total L h)

-- ---- the order of the paths

module _ (f : Steps → List ℕ) (k : ℕ) where
  order_keeps : {L L' : List Steps} → Permᴰ L L' → occurrences k (flat_map f L) ≡ occurrences k (flat_map f L')
  unfolding flat_map
  order_keeps Permᴰ.nil = refl
  order_keeps (Permᴰ.cons {a} {b} {l₁} {l₂} e o) =
      let first : occurrences k (f a) ≡ occurrences k (f b) = ap (λ (p : Steps). occurrences k (f p)) e in
      omega (arith, occ_append k (f a) (flat_map f l₁), occ_append k (f b) (flat_map f l₂), order_keeps o)
  order_keeps (Permᴰ.swap {a} {b} {a'} {b'} {l} e d) =
      let first : occurrences k (f a) ≡ occurrences k (f b') = ap (λ (p : Steps). occurrences k (f p)) e in
      let second : occurrences k (f b) ≡ occurrences k (f a') = ap (λ (p : Steps). occurrences k (f p)) d in
      omega (arith, occ_append k (f a) (f b ++ flat_map f l), occ_append k (f b) (flat_map f l), occ_append k (f a') (f b' ++ flat_map f l), occ_append k (f b') (flat_map f l))
  order_keeps (Permᴰ.trans o u) = order_keeps o ∙ order_keeps u

pub order_length : {X : Type 0} {xs ys : List X} → Permᴰ xs ys → length ys ≡ length xs
order_length Permᴰ.nil = refl
order_length (Permᴰ.cons e o) = ap suc (order_length o)
order_length (Permᴰ.swap e d) = refl
order_length (Permᴰ.trans o u) = order_length u ∙ order_length o

-- what holds of each holds in any order
pub order_all : {X : Type 0} (P : X → Type 0) {xs ys : List X} → Permᴰ xs ys → All P xs → All P ys
order_all P Permᴰ.nil h = h
order_all P (Permᴰ.cons e o) h = (rw (← e) h.0, order_all P o h.1)
order_all P (Permᴰ.swap e d) h = (rw (← d) h.1.0, (rw (← e) h.0, h.1.1))
order_all P (Permᴰ.trans o u) h = order_all P u (order_all P o h)

pub order_least : {L L' : List Steps} → Permᴰ L L' → AllRanks L → least L' ≡ least L
unfolding listing
order_least {L} {L'} o h =
    let same : listing L' ≡ listing L =
    entered_same (flat_map listed_keys L') (flat_map listed_keys L) (λ k i. omega (arith, order_keeps listed_keys k o)) (λ k i. omega (arith, order_keeps listed_keys k o)) in
    sym (listing_least L' (order_all Ranks o h)) ∙ ap length same ∙ listing_least L h
