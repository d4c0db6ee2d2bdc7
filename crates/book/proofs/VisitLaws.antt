-- What goes in comes out. In one path a node's steps are the one where it begins and those that follow a step, and they are those that a step follows and the one
-- where it ends. The nodes of the keys that a path counts are its steps, and each counted key has one row, so a node's rows count together how often the window part
-- comes to it. Assumes nothing.
use mathlib.Core.Path.{◌≡◌, refl, sym, ap, ap₂, ◌∙◌}
use mathlib.Core.Logic.{◌↔◌}
use Prim.Native.Nat.{ℕ, ◌+◌}
use native.Mathlib.Omega.{arith}
use mathlib.Core.List.{List, [], ◌∷◌, ◌++◌, map, flat_map, map-append}
use mathlib.Core.Bool.{cond}
use lib.Dec.{eqb}
use lib.ListN.{length}
use Rattle.priors.specs.Rows.{row}
use Rattle.priors.specs.Priors.{count_sum}
use Rattle.entries.specs.Keys.{node_of}
use Rattle.book.specs.Path.{Steps, counted_keys}
use Rattle.book.specs.Recount.{occurrences, window_part, counted, listing, rows_of}
use Rattle.book.specs.Figures.{total, endings, Ranks, AllRanks, Somewhere}
use Rattle.book.specs.Visits.{arrivals, beginnings, visits, evidence_total}
use Rattle.book.proofs.Occurrences.{occ_nil, occ_cons}
use Rattle.book.proofs.Window.{EndsWith, counted_le}
use Rattle.book.proofs.Image.{ascends_listing}
use Rattle.book.proofs.Membership.{In, once, listing_in}
use Rattle.book.proofs.Sums.{counted_steps, total_window, tested, tested_once, sum_once}
use Rattle.book.proofs.Meaning.{ranks_window, stands_total, nowhere, total_above}
use Rattle.book.proofs.ListingForm.{node_end, node_child}

-- ---- one path, and paths

-- how often a stands right before a step
unfoldable pub departures : ℕ → Steps → ℕ
departures a [] = 0
departures a (x ∷ []) = 0
departures a (x ∷ y ∷ p) = cond (eqb a x) 1 0 + departures a (y ∷ p)

module _ (a : ℕ) where
  pub comes_in : (p : Steps) → arrivals a p + beginnings a p ≡ occurrences a p
  unfolding arrivals beginnings
  comes_in [] = sym (occ_nil a)
  comes_in (x ∷ []) = omega (arith, occ_cons a x [], occ_nil a)
  comes_in (x ∷ y ∷ p) = omega (arith, occ_cons a x (y ∷ p), comes_in (y ∷ p))

  pub goes_out : (p : Steps) → departures a p + endings a p ≡ occurrences a p
  unfolding departures endings
  goes_out [] = sym (occ_nil a)
  goes_out (x ∷ []) = omega (arith, occ_cons a x [], occ_nil a)
  goes_out (x ∷ y ∷ p) = omega (arith, occ_cons a x (y ∷ p), goes_out (y ∷ p))

-- two figures that make a third in each path make it in all
pub total_both : (f g h : Steps → ℕ) → ((p : Steps) → f p + g p ≡ h p) → (H : List Steps) → total f H + total g H ≡ total h H
unfolding total
total_both f g h e [] = refl
total_both f g h e (p ∷ H) = omega (arith, e p, total_both f g h e H)

pub visits_are : (W : ℕ) (H : List Steps) (a : ℕ) → visits W H a ≡ total (occurrences a) (window_part W H)
unfolding visits
visits_are W H a = total_both (arrivals a) (beginnings a) (occurrences a) (comes_in a) (window_part W H)

-- ---- the nodes of counted keys

-- they are the steps, in order
nodes_counted : (p : Steps) → Ranks p → map node_of (counted_keys p) ≡ p
unfolding counted_keys
nodes_counted [] h = refl
nodes_counted (x ∷ []) h = rw (node_end x)
nodes_counted (x ∷ y ∷ p) h = ap₂ (λ (n : ℕ) (l : Steps). n ∷ l) (node_child x y h.1.0) (nodes_counted (y ∷ p) h.1)

nodes_all : (H : List Steps) → AllRanks H → map node_of (flat_map counted_keys H) ≡ flat_map (λ (p : Steps). p) H
unfolding flat_map
nodes_all [] h = refl
nodes_all (p ∷ H) h = map-append node_of (counted_keys p) (flat_map counted_keys H) ∙ ap₂ (λ (k l : Steps). k ++ l) (nodes_counted p h.0) (nodes_all H h.1)

module _ (a : ℕ) where
  total_tested : (f : ℕ → ℕ) (ks : List ℕ) → evidence_total a (map (λ k. row k (f k)) ks) ≡ tested (λ k. eqb a (node_of k)) f ks
  unfolding evidence_total tested
  total_tested f [] = refl
  total_tested f (k ∷ ks) = omega (arith, total_tested f ks)

  node_tested : (ks : List ℕ) → tested (λ k. eqb a (node_of k)) (λ k. 1) ks ≡ occurrences a (map node_of ks)
  unfolding tested
  node_tested [] = sym (occ_nil a)
  node_tested (k ∷ ks) = omega (arith, occ_cons a (node_of k) (map node_of ks), node_tested ks)

-- ---- the rows of H and L

module _ (W : ℕ) (H L : List Steps) (ends : EndsWith W H L) where
  counted_once : (k : ℕ) → In k (flat_map counted_keys (window_part W H)) → occurrences k (listing L) ≡ 1
  unfolding counted
  counted_once k i = once 0 k (listing L) (ascends_listing L) (listing_in L k (omega (arith, counted_le W H L ends k)))

  -- all counts together are the steps of the window part
  pub all_counts_lem : count_sum (rows_of W H L) ≡ total length (window_part W H)
  unfolding rows_of counted
  all_counts_lem = sum_once (listing L) (flat_map counted_keys (window_part W H)) counted_once ∙ counted_steps (window_part W H)

  module _ (ranks : AllRanks L) (a : ℕ) where
    -- a node's are its visits
    pub total_visits : evidence_total a (rows_of W H L) ≡ visits W H a
    unfolding rows_of counted
    total_visits =
        let keys : List ℕ = flat_map counted_keys (window_part W H) in
        let ranks' : AllRanks (window_part W H) = ranks_window W H L ends ranks in
        total_tested a (λ k. occurrences k keys) (listing L)
        ∙ tested_once (λ k. eqb a (node_of k)) (listing L) keys counted_once
        ∙ node_tested a keys
        ∙ ap (occurrences a) (nodes_all (window_part W H) ranks')
        ∙ stands_total a (window_part W H) ranks'
        ∙ sym (visits_are W H a)

    -- 0 exactly where no path of the window part holds it
    pub total_none : (evidence_total a (rows_of W H L) ≡ 0) ↔ (Somewhere (occurrences a) (window_part W H) → ⊥)
    total_none = (
      λ e s. absurd (omega (arith, total_visits, visits_are W H a, total_above (occurrences a) (window_part W H) s.0 s.1, s.2)),
      λ o. total_visits ∙ visits_are W H a ∙ nowhere (occurrences a) (window_part W H) o,
    )

  -- a node that no path of L holds has no visits
  pub never_visited : (a : ℕ) → (Somewhere (occurrences a) L → ⊥) → visits W H a ≡ 0
  never_visited a o = omega (arith, visits_are W H a, total_window (occurrences a) W H L ends, nowhere (occurrences a) L o)
