-- Index 0 of the tables is never read: the tests of the tables begin at index 1, and where the priors pass theirs every index asked for, T, U, a and e + a, is
-- positive. So two pairs of tables that differ there alone give the same sums, divergences, walks and readings. Assumes nothing.
use Rattle.std.proofs.Common.{◌≡◌, ℕ, zero, suc, ◌+◌, ◌-◌, ◌<◌, Bool, true, false, cond, ◌||◌, ltb, List, [], ◌∷◌, length, refl, ap, ap₂, arith, ltb-true}
use Rattle.std.specs.Prelude.{is_none, Option, None, Some}
use lib.Ieee.{Float}
use Rattle.priors.specs.Below.{all_below}
use Rattle.priors.specs.Rows.{Row, count_of}
use Rattle.priors.specs.Tables.{within, table_at, entry_fits, table_entries_fit, lengths_fit, tables_refusal}
use Rattle.priors.specs.Priors.{layer_of, Counts, total, prior_of, priors_refusal}
use Rattle.priors.proofs.PriorLaws.{accepted, Positive, prior_positive}
use Rattle.divergence.specs.declared.sums.Sums.{Sums}
use Rattle.divergence.specs.Nodes.{Node, evidence_of}
use Rattle.divergence.specs.Divergence.{no_sums, term, ending_term, prior_count, child_terms, closed, divergence, lacks_child, node_divergence}
use Rattle.divergence.specs.Statistics.{Walk, visited, walk}
use Rattle.divergence.specs.Readings.{Reading, unless, fitting, divergence_reading, of_listed, kl_reading, with_prior, walk_reading, all_reading, stats_reading_of, stats_reading}
use Rattle.divergence.specs.Asked.{room_in}
use Rattle.divergence.specs.Corollaries.{IndexZeroUnread}

-- ---- what is the same where it is looked at is the same

same_cond : {X : Type 0} (b : Bool) {x x' y y' : X} → (b ≡ true → x ≡ x') → (b ≡ false → y ≡ y') → cond b x y ≡ cond b x' y'
same_cond true h i = h refl
same_cond false h i = i refl

same_unless : {X : Type 0} (n : ℕ) {r s : Reading X} → (n ≡ 0 → r ≡ s) → unless n r ≡ unless n s
same_unless zero h = h refl
same_unless (suc n) h = refl

-- ---- tables

same_at : (x y : Float) (t : List Float) (k : ℕ) → 0 < k → table_at (x ∷ t) k ≡ table_at (y ∷ t) k
same_at x y t zero h = absurd (omega arith)
same_at x y t (suc k) h = refl

same_entries : (x y : Float) (t : List Float) → table_entries_fit (x ∷ t) ≡ table_entries_fit (y ∷ t)
unfolding table_entries_fit entry_fits
same_entries x y t = λ j. all_below (suc (length t) - 1) (λ i. within (same_at x y t (i + 1) (omega arith) j))

-- ---- children of a prior

-- one that is not missing has a count
pub child_positive : (p : Counts) → Positive p → (k : ℕ) → is_none (count_of k p.children) ≡ false → 0 < prior_count (count_of k p.children)
child_positive p positive k h = go (count_of k p.children) refl h
  where
    go : (o : Option ℕ) → count_of k p.children ≡ o → is_none o ≡ false → 0 < prior_count o
    go None e h = let z : ◌≡◌ {A = ℕ} 0 1 = cc in absurd (omega arith)
    go (Some c) e h = positive.count_positive k c e

pub neither : (a b : Bool) → a || b ≡ false → (a ≡ false) × (b ≡ false)
neither true b h = let z : ◌≡◌ {A = ℕ} 0 1 = cc in absurd (omega arith)
neither false b h = (refl, h)

module _ (g g' d d' : Float) (G D : List Float) where
  pub same_tables : tables_refusal (g ∷ G) (d ∷ D) ≡ tables_refusal (g' ∷ G) (d' ∷ D)
  unfolding tables_refusal lengths_fit
  same_tables = rw (same_entries g g' G, same_entries d d' D)

  -- ---- the sums

  same_term : (T : ℕ) (s : Sums) (a e : ℕ) → 0 < T → 0 < a → term (g ∷ G) (d ∷ D) T s a e ≡ term (g' ∷ G) (d' ∷ D) T s a e
  unfolding term
  same_term T s a e t h = rw (same_at g g' G a h, same_at g g' G (e + a) (omega arith), same_at d d' D a h, same_at d d' D T t)

  same_ending : (T : ℕ) (s : Sums) (a e : ℕ) → 0 < T → ending_term (g ∷ G) (d ∷ D) T s a e ≡ ending_term (g' ∷ G) (d' ∷ D) T s a e
  unfolding ending_term
  same_ending T s a e t = same_cond (ltb 0 a) (λ h. same_term T s a e t (ltb-true 0 a h)) (λ h. refl)

  module _ (p : Counts) (positive : Positive p) where
    same_children : (s : Sums) (es : List Row) → lacks_child p.children es ≡ false
        → child_terms (g ∷ G) (d ∷ D) (total p) p.children s es ≡ child_terms (g' ∷ G) (d' ∷ D) (total p) p.children s es
    unfolding child_terms lacks_child
    same_children s [] h = refl
    same_children s (e ∷ es) h =
        let a = prior_count (count_of e.key p.children) in
        let has = neither (is_none (count_of e.key p.children)) (lacks_child p.children es) h in
        rw (same_term (total p) s a e.count positive.total_positive (child_positive p positive e.key has.0))
        (same_children (term (g' ∷ G) (d' ∷ D) (total p) s a e.count) es has.1)

    same_divergence : (e : Counts) → lacks_child p.children e.children ≡ false → divergence (g ∷ G) (d ∷ D) p e ≡ divergence (g' ∷ G) (d' ∷ D) p e
    unfolding divergence closed
    same_divergence e h =
        let T = total p in
        let t = positive.total_positive in
        rw (
          same_at g g' G T t,
          same_at g g' G (T + total e) (omega arith),
          same_ending T no_sums p.ending e.ending t,
          same_children (ending_term (g' ∷ G) (d' ∷ D) T no_sums p.ending e.ending) e.children h,
        )

  -- ---- a node, a walk over nodes, a reading

  same_node : (o : Option Counts) → ((p : Counts) → o ≡ Some p → Positive p) → (e : Counts) → node_divergence (g ∷ G) (d ∷ D) o e ≡ node_divergence (g' ∷ G) (d' ∷ D) o e
  unfolding node_divergence
  same_node None positive e = refl
  same_node (Some p) positive e = same_cond (lacks_child p.children e.children) (λ h. refl) (λ h. rw (same_divergence p (positive p refl) e h))

  module _ (nodes children : List ℕ) (layer : ℕ) where
    same_checked : {X : Type 0} (form : ℕ) {r s : Reading X} → (priors_refusal nodes children layer ≡ 0 → r ≡ s)
        → unless (tables_refusal (g ∷ G) (d ∷ D)) (unless (priors_refusal nodes children layer) (unless form r))
        ≡ unless (tables_refusal (g' ∷ G) (d' ∷ D)) (unless (priors_refusal nodes children layer) (unless form s))
    same_checked form h = ap₂ unless same_tables (same_unless (priors_refusal nodes children layer) (λ ok. ap (unless form) (h ok)))

    module _ (ok : priors_refusal nodes children layer ≡ 0) where
      same_ranked : (rank : ℕ) (e : Counts) → node_divergence (g ∷ G) (d ∷ D) (prior_of nodes children layer rank) e ≡ node_divergence (g' ∷ G) (d' ∷ D) (prior_of nodes children layer rank) e
      same_ranked rank e = same_node (prior_of nodes children layer rank) (prior_positive nodes children layer (accepted nodes children layer ok) rank) e

      same_listed : (rank : ℕ) (o : Option Counts) → of_listed (g ∷ G) (d ∷ D) nodes children layer rank o ≡ of_listed (g' ∷ G) (d' ∷ D) nodes children layer rank o
      same_listed rank None = refl
      same_listed rank (Some e) = ap (divergence_reading rank) (same_ranked rank e)

      same_walk : (ns : List Node) → walk (g ∷ G) (d ∷ D) nodes children layer ns ≡ walk (g' ∷ G) (d' ∷ D) nodes children layer ns
      unfolding walk
      same_walk [] = refl
      same_walk (n ∷ ns) = ap₂ (visited n.address) (same_ranked n.address n.evidence) (same_walk ns)

    module _ (form : ℕ) (ns : List Node) where
      kl_same : (rank : ℕ) → kl_reading form (g ∷ G) (d ∷ D) nodes children layer ns rank ≡ kl_reading form (g' ∷ G) (d' ∷ D) nodes children layer ns rank
      unfolding kl_reading
      kl_same rank = same_checked form (λ ok. same_listed ok rank (evidence_of rank ns))

      all_same : (have : ℕ) → all_reading form (g ∷ G) (d ∷ D) nodes children layer ns have ≡ all_reading form (g' ∷ G) (d' ∷ D) nodes children layer ns have
      unfolding all_reading
      all_same have = same_checked form (λ ok. ap (λ (w : Walk). fitting (with_prior nodes children layer ns) have (walk_reading w)) (same_walk ok ns))

      pub stats_same : (len : ℕ) → stats_reading form (g ∷ G) (d ∷ D) nodes children layer ns len ≡ stats_reading form (g' ∷ G) (d' ∷ D) nodes children layer ns len
      unfolding stats_reading
      stats_same len = same_checked form (λ ok. ap (stats_reading_of len) (same_walk ok ns))

pub index_zero_unread : IndexZeroUnread
index_zero_unread s p rank o = (
  λ g g' d d' G D. kl_same g g' d d' G D p.nodes p.children (layer_of p.floor) s.form s.listed rank,
  λ g g' d d' G D. rw (all_same g g' d d' G D p.nodes p.children (layer_of p.floor) s.form s.listed (room_in o)),
  λ g g' d d' G D. stats_same g g' d d' G D p.nodes p.children (layer_of p.floor) s.form s.listed s.sequence_length,
)
