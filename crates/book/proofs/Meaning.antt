-- The rows in the paper's words, for paths whose steps are ranks: a child is listed under a node if the two are a transition somewhere in L, and its
-- count is how often they are one in the window part of H; a node is listed if some path of L holds it, and its ending's count is how many paths of the
-- window part end there. The keys of two nodes, of an ending and a child, and of two children of a node differ, and that is all that is used of them.
-- Assumes nothing.
use mathlib.Core.Path.{◌≡◌, refl, sym, ap, ap₂, ◌∙◌}
use mathlib.Core.Logic.{◌↔◌, ◌⊎◌, inl, inr}
use Prim.Native.Nat.{ℕ, zero, suc, ◌+◌, ◌^◌, ◌≤◌, ◌<◌}
use native.Mathlib.Omega.{arith}
use mathlib.Core.List.Memᴰ
use mathlib.Core.List.{List, [], ◌∷◌, flat_map, Memᴰ}
use Rattle.std.specs.Prelude.{Some}
use mathlib.Core.Bool.{cond, ◌&&◌}
use lib.Dec.{eqb}
use borrow.Author.Tests.{eq-eqb, ne_eqb}
use Rattle.priors.specs.Rows.{Row, look}
use Rattle.priors.specs.Address.{lift, rank}
use Rattle.entries.specs.Keys.{key_of, end_key, child_key}
use Rattle.book.specs.Path.{Steps, listed_keys, counted_keys}
use Rattle.book.specs.Recount.{occurrences, window_part, counted, rows_of}
use Rattle.book.specs.Figures.{total, transitions, endings, Ranks, AllRanks, Listed, Somewhere}
use Rattle.priors.proofs.Orders.{Alike, alike, unlike, compared}
use Rattle.book.proofs.Passes.{found}
use Rattle.book.proofs.Occurrences.{hit, occ_nil, occ_cons, occ_append}
use Rattle.book.proofs.Window.{EndsWith, all_drop}
use Rattle.book.proofs.Image.{look_rows}

-- ---- keys that differ

hit_is : (k x : ℕ) → k ≡ x → hit k x ≡ 1
hit_is k x h = rw (eq-eqb k x h)

hit_not : (k x : ℕ) → (k ≡ x → ⊥) → hit k x ≡ 0
hit_not k x h = rw (ne_eqb k x h)

pub end_end : (a x : ℕ) → hit (end_key a) (end_key x) ≡ hit a x
unfolding end_key key_of rank lift
end_end a x = go (compared a x)
  where
    go : Alike a x → hit (end_key a) (end_key x) ≡ hit a x
    go (alike q e) = rw e (hit_is (end_key a) (end_key x) (omega arith))
    go (unlike q e) = rw e (hit_not (end_key a) (end_key x) (λ d. omega arith))

pub end_child : (a x y : ℕ) → y < 2 ^ 64 → hit (end_key a) (child_key x y) ≡ 0
unfolding end_key child_key key_of rank lift
end_child a x y h = hit_not (end_key a) (child_key x y) (λ q. omega arith)

pub child_end : (a b x : ℕ) → b < 2 ^ 64 → hit (child_key a b) (end_key x) ≡ 0
unfolding end_key child_key key_of rank lift
child_end a b x h = hit_not (child_key a b) (end_key x) (λ q. omega arith)

pub child_child : (a b x y : ℕ) → b < 2 ^ 64 → y < 2 ^ 64 → hit (child_key a b) (child_key x y) ≡ cond (eqb a x && eqb b y) 1 0
unfolding child_key key_of
child_child a b x y h k = go (compared a x) (compared b y)
  where
    go : Alike a x → Alike b y → hit (child_key a b) (child_key x y) ≡ cond (eqb a x && eqb b y) 1 0
    go (alike q e) (alike r d) = rw (e, d) (hit_is (child_key a b) (child_key x y) (omega arith))
    go (alike q e) (unlike r d) = rw (e, d) (hit_not (child_key a b) (child_key x y) (λ z. r (omega arith)))
    go (unlike q e) o = rw e (hit_not (child_key a b) (child_key x y) (λ z. q (omega arith)))

-- ---- one path

module _ (a : ℕ) where
  pub ends_listed : (p : Steps) → Ranks p → occurrences (end_key a) (listed_keys p) ≡ occurrences a p
  unfolding listed_keys
  ends_listed [] h = omega (arith, occ_nil (end_key a), occ_nil a)
  ends_listed (x ∷ []) h = omega (arith, occ_nil (end_key a), occ_nil a, occ_cons (end_key a) (end_key x) [], occ_cons a x [], end_end a x)
  ends_listed (x ∷ y ∷ p) h =
      omega (arith, occ_cons (end_key a) (end_key x) (child_key x y ∷ listed_keys (y ∷ p)), occ_cons (end_key a) (child_key x y) (listed_keys (y ∷ p)), occ_cons a x (y ∷ p), end_end a x, end_child a x y h.1.0, ends_listed (y ∷ p) h.1)

  pub ends_counted : (p : Steps) → Ranks p → occurrences (end_key a) (counted_keys p) ≡ endings a p
  unfolding counted_keys endings
  ends_counted [] h = occ_nil (end_key a)
  ends_counted (x ∷ []) h = omega (arith, occ_nil (end_key a), occ_cons (end_key a) (end_key x) [], end_end a x)
  ends_counted (x ∷ y ∷ p) h = omega (arith, occ_cons (end_key a) (child_key x y) (counted_keys (y ∷ p)), end_child a x y h.1.0, ends_counted (y ∷ p) h.1)

  module _ (b : ℕ) (rank : b < 2 ^ 64) where
    pub child_listed : (p : Steps) → Ranks p → occurrences (child_key a b) (listed_keys p) ≡ transitions a b p
    unfolding listed_keys transitions
    child_listed [] h = occ_nil (child_key a b)
    child_listed (x ∷ []) h = omega (arith, occ_nil (child_key a b), occ_cons (child_key a b) (end_key x) [], child_end a b x rank)
    child_listed (x ∷ y ∷ p) h =
        omega (arith, occ_cons (child_key a b) (end_key x) (child_key x y ∷ listed_keys (y ∷ p)), occ_cons (child_key a b) (child_key x y) (listed_keys (y ∷ p)), child_end a b x rank, child_child a b x y rank h.1.0, child_listed (y ∷ p) h.1)

    pub child_counted : (p : Steps) → Ranks p → occurrences (child_key a b) (counted_keys p) ≡ transitions a b p
    unfolding counted_keys transitions
    child_counted [] h = occ_nil (child_key a b)
    child_counted (x ∷ []) h = omega (arith, occ_nil (child_key a b), occ_cons (child_key a b) (end_key x) [], child_end a b x rank)
    child_counted (x ∷ y ∷ p) h =
        omega (arith, occ_cons (child_key a b) (child_key x y) (counted_keys (y ∷ p)), child_child a b x y rank h.1.0, child_counted (y ∷ p) h.1)

-- ---- paths

-- a figure of each path for its keys' occurrences
pub occ_total : (k : ℕ) (f : Steps → List ℕ) (g : Steps → ℕ) → ((p : Steps) → Ranks p → occurrences k (f p) ≡ g p) → (H : List Steps) → AllRanks H → occurrences k (flat_map f H) ≡ total g H
unfolding flat_map total
occ_total k f g e [] h = occ_nil k
occ_total k f g e (p ∷ H) h = omega (arith, occ_append k (f p) (flat_map f H), e p h.0, occ_total k f g e H h.1)

pub ranks_window : (W : ℕ) (H L : List Steps) → EndsWith W H L → AllRanks L → AllRanks (window_part W H)
ranks_window W H L d h = rw d.1 (all_drop Ranks d.0 L h)

-- how often a node stands in the paths
pub stands_total : (a : ℕ) (H : List Steps) → AllRanks H → occurrences a (flat_map (λ (p : Steps). p) H) ≡ total (occurrences a) H
stands_total a = occ_total a (λ (p : Steps). p) (occurrences a) (λ p h. refl)

module _ (W : ℕ) (H L : List Steps) (ends : EndsWith W H L) (ranks : AllRanks L) (a : ℕ) where
  pub look_ending : look (end_key a) (rows_of W H L) ≡ found (total (occurrences a) L) (total (endings a) (window_part W H))
  unfolding counted
  look_ending =
      look_rows W H L (end_key a)
      ∙ ap₂ found (occ_total (end_key a) listed_keys (occurrences a) (ends_listed a) L ranks) (occ_total (end_key a) counted_keys (endings a) (ends_counted a) (window_part W H) (ranks_window W H L ends ranks))

  pub look_child : (b : ℕ) → b < 2 ^ 64 → look (child_key a b) (rows_of W H L) ≡ found (total (transitions a b) L) (total (transitions a b) (window_part W H))
  unfolding counted
  look_child b r =
      look_rows W H L (child_key a b)
      ∙ ap₂ found (occ_total (child_key a b) listed_keys (transitions a b) (child_listed a b r) L ranks) (occ_total (child_key a b) counted_keys (transitions a b) (child_counted a b r) (window_part W H) (ranks_window W H L ends ranks))

-- ---- listed if, and only if, some path of L has it

pub somewhere : (f : Steps → ℕ) (H : List Steps) → 0 < total f H → Somewhere f H
unfolding total
somewhere f [] h = absurd (omega arith)
somewhere f (p ∷ H) h = go (f p) refl (somewhere f H)
  where
    go : (n : ℕ) → f p ≡ n → (0 < total f H → Somewhere f H) → Somewhere f (p ∷ H)
    go zero e ih = let s = ih (omega arith) in (s.0, Memᴰ.tail s.1, s.2)
    go (suc n) e ih = (p, Memᴰ.head refl, omega arith)

pub nowhere : (f : Steps → ℕ) (H : List Steps) → (Somewhere f H → ⊥) → total f H ≡ 0
nowhere f H o = go (total f H) refl
  where
    go : (n : ℕ) → total f H ≡ n → n ≡ 0
    go zero e = refl
    go (suc n) e = absurd (o (somewhere f H (omega arith)))

pub total_above : (f : Steps → ℕ) (H : List Steps) (p : Steps) → Memᴰ p H → f p ≤ total f H
unfolding total
total_above f [] p m = absurd (Memᴰ.not-nil m)
total_above f (q ∷ H) p m = go (Memᴰ.cases_cons m) (total_above f H p)
  where
    go : (p ≡ q) ⊎ Memᴰ p H → (Memᴰ p H → f p ≤ total f H) → f p ≤ f q + total f H
    go (inl e) ih = let d : f p ≡ f q = ap f e in omega arith
    go (inr i) ih = omega (arith, ih i)

-- a look-up that finds `found n c` finds anything just where n is above 0
listed_above : (k : ℕ) (f : Steps → ℕ) (H : List Steps) (rs : List Row) (c : ℕ) → look k rs ≡ found (total f H) c → Listed k rs ↔ Somewhere f H
listed_above k f H rs c e = (λ l. somewhere f H (there (total f H) l.0 (sym e ∙ l.1)), λ s. (c, e ∙ back (total f H) (omega (arith, total_above f H s.0 s.1, s.2))))
  where
    there : (n d : ℕ) → found n c ≡ Some d → 0 < n
    there zero d h = let z : ◌≡◌ {A = ℕ} 0 1 = cc in absurd (omega arith)
    there (suc n) d h = omega arith

    back : (n : ℕ) → 0 < n → found n c ≡ Some c
    back zero h = absurd (omega arith)
    back (suc n) h = refl

module _ (W : ℕ) (H L : List Steps) (ends : EndsWith W H L) (ranks : AllRanks L) (a : ℕ) where
  -- a node has its ending if some path of L holds it
  pub node_listed : Listed (end_key a) (rows_of W H L) ↔ Somewhere (occurrences a) L
  node_listed = listed_above (end_key a) (occurrences a) L (rows_of W H L) _ (look_ending W H L ends ranks a)

  -- a child under a node is listed if the two are a transition somewhere in L
  pub child_listed_iff : (b : ℕ) → b < 2 ^ 64 → Listed (child_key a b) (rows_of W H L) ↔ Somewhere (transitions a b) L
  child_listed_iff b r = listed_above (child_key a b) (transitions a b) L (rows_of W H L) _ (look_child W H L ends ranks a b r)
