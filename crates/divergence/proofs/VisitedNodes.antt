-- What goes in comes out, for readings: a listed node has evidence, and its total is the node's visits. Its children count the steps that follow it in the window part,
-- each under one row, and a step of a path is followed or is its end. Assumes nothing.
use Rattle.std.proofs.Common.{◌≡◌, ℕ, ◌+◌, Bool, true, false, cond, eqb, List, [], ◌∷◌, map, length, sym, refl, ap, ◌∙◌, ⊎_elim, arith, eq-eqb, ne_eqb}
use mathlib.Core.List.{flat_map}
use Rattle.std.specs.Prelude.{None, Some, option_map}
use Rattle.priors.specs.Rows.{row}
use Rattle.priors.specs.Priors.{count_sum}
use Rattle.priors.specs.Priors as Priors
use Rattle.book.specs.Path.{Steps}
use Rattle.book.specs.Recount.{occurrences, window_part}
use Rattle.book.specs.Figures.{total, transitions, endings, AllRanks, Somewhere}
use Rattle.book.specs.Visits.{visits}
use Rattle.priors.proofs.Orders.{Alike, alike, unlike, compared}
use Rattle.book.proofs.Sums.{length_total, total_window, sum_once}
use Rattle.book.proofs.Window.{EndsWith}
use Rattle.book.proofs.Meaning.{ranks_window, stands_total, somewhere, total_above}
use Rattle.book.proofs.ManyRows.{ascends_entered}
use Rattle.book.proofs.Membership.{In, in_head, in_tail, in_cons, in_none, once, enter_all-in, in_entered}
use Rattle.book.proofs.VisitLaws.{departures, goes_out, total_both, visits_are}
use Rattle.divergence.specs.Nodes.{evidence_of}
use Rattle.divergence.specs.RecountNodes.{followers, children_listed, node_counted, nodes_listed, recount_nodes}
use Rattle.divergence.proofs.RecountNodeLaws.{followers_total}

-- ---- the steps that follow

length_followers : (a : ℕ) (p : Steps) → length (followers a p) ≡ departures a p
unfolding followers departures
length_followers a [] = refl
length_followers a (x ∷ []) = refl
length_followers a (x ∷ y ∷ p) = go (eqb a x) (length_followers a (y ∷ p))
  where
    go : (t : Bool) → length (followers a (y ∷ p)) ≡ departures a (y ∷ p) → length (cond t (y ∷ followers a (y ∷ p)) (followers a (y ∷ p))) ≡ cond t 1 0 + departures a (y ∷ p)
    go true ih = omega arith
    go false ih = omega arith

-- ---- a listed node

module _ (W : ℕ) (H L : List Steps) (ends : EndsWith W H L) (ranks : AllRanks L) (a : ℕ) where
  ranks_part : AllRanks (window_part W H)
  ranks_part = ranks_window W H L ends ranks

  -- each step that follows in the window part has one row
  follows_once : (b : ℕ) → In b (flat_map (followers a) (window_part W H)) → occurrences b (children_listed a L) ≡ 1
  unfolding children_listed
  follows_once b i =
      once 0 b (children_listed a L) (ascends_entered (flat_map (followers a) L))
      (enter_all-in b (flat_map (followers a) L) [] (omega (arith, followers_total a b (window_part W H) ranks_part, followers_total a b L ranks, total_window (transitions a b) W H L ends)))

  followed : count_sum (map (λ b. row b (total (transitions a b) (window_part W H))) (children_listed a L)) ≡ total (departures a) (window_part W H)
  followed =
      sym (λ i. count_sum (map (λ b. row b (followers_total a b (window_part W H) ranks_part i)) (children_listed a L)))
      ∙ sum_once (children_listed a L) (flat_map (followers a) (window_part W H)) follows_once
      ∙ length_total (followers a) (departures a) (length_followers a) (window_part W H)

  node_visits : Priors.total (node_counted W H L a).evidence ≡ visits W H a
  unfolding Priors.total node_counted
  node_visits = omega (arith, followed, total_both (departures a) (endings a) (occurrences a) (goes_out a) (window_part W H), visits_are W H a)

  -- ---- the evidence of a listed node, and of one that is not listed

  evidence_some : (ns : List ℕ) → In a ns → evidence_of a (map (node_counted W H L) ns) ≡ Some (node_counted W H L a).evidence
  unfolding evidence_of node_counted
  evidence_some [] i = in_none a i
  evidence_some (n ∷ ns) i = go (compared n a) (evidence_some ns)
    where
      go : Alike n a → (In a ns → evidence_of a (map (node_counted W H L) ns) ≡ Some (node_counted W H L a).evidence) → evidence_of a (map (node_counted W H L) (n ∷ ns)) ≡ Some (node_counted W H L a).evidence
      go (alike q t) ih = rw (q, eq-eqb a a refl)
      go (unlike q t) ih = rw t (ih (⊎_elim (λ e. absurd (q (sym e))) (λ m. m) (in_cons a n ns i)))

  evidence_none : (ns : List ℕ) → (In a ns → ⊥) → evidence_of a (map (node_counted W H L) ns) ≡ None
  unfolding evidence_of node_counted
  evidence_none [] o = refl
  evidence_none (n ∷ ns) o = rw (ne_eqb n a (λ q. o (in_head a n ns (sym q)))) (evidence_none ns (λ i. o (in_tail a n ns i)))

  pub evidence_visits : Somewhere (occurrences a) L → option_map Priors.total (evidence_of a (recount_nodes W H L)) ≡ Some (visits W H a)
  unfolding recount_nodes nodes_listed
  evidence_visits s =
      ap (option_map Priors.total) (evidence_some (nodes_listed L) (enter_all-in a (flat_map (λ (p : Steps). p) L) [] (omega (arith, stands_total a L ranks, total_above (occurrences a) L s.0 s.1, s.2))))
      ∙ ap Some node_visits

  pub evidence_missing : (Somewhere (occurrences a) L → ⊥) → evidence_of a (recount_nodes W H L) ≡ None
  unfolding recount_nodes nodes_listed
  evidence_missing o = evidence_none (nodes_listed L) (λ i. o (somewhere (occurrences a) L (omega (arith, stands_total a L ranks, in_entered a (flat_map (λ (p : Steps). p) L) i))))
