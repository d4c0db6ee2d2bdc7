-- The counts whose figures are answered, as a merge has them, and the cases of the two readings of probabilities. Assumes nothing.
use Rattle.std.proofs.Common.{◌≡◌, ℕ, ◌+◌, ◌<◌, ◌≤◌, true, List, [], map, length, sym, refl, arith, le-ltb, lt-ltb}
use Rattle.std.specs.Prelude.{None, Some}
use Rattle.priors.specs.declared.refusals.Reason.{Reason}
use Rattle.priors.specs.declared.records.Record.{Record}
use Rattle.priors.specs.Below.{all_below}
use Rattle.priors.specs.Refusals.{reason_number}
use Rattle.priors.specs.Rows.{keys, Ascends}
use Rattle.priors.specs.Priors.{Counts, chain, chain_of, every_child, next_link_fits, prior_of_node, prior_of, total, priors_refusal}
use Rattle.priors.proofs.RuleLaws.{names_none, priors_unnamed}
use Rattle.entries.specs.Entries.{rows, entry_count_at}
use Rattle.divergence.specs.Nodes.{Node, child_row, evidence_of}
use Rattle.divergence.specs.Parts.{part, evidence_at}
use Rattle.divergence.specs.Probability.{with_evidence, posterior, prob_vector, with_total, evidence_prob_vector}
use Rattle.divergence.specs.Merge.{merged_from}
use Rattle.divergence.specs.Readings.{refused, nothing, answered, unless, vector_reading, prob_reading, evidence_reading}
use Rattle.divergence.proofs.MergeLaws.{evidence_alone}
use Rattle.divergence.proofs.CheckLaws.{unless_reason}

-- ---- an output that is not short

module _ (have : ℕ) (c : Counts) where
  pub vector_fits : length c.children ≤ have → vector_reading have (Some c) ≡ answered c
  vector_fits l = rw (le-ltb have (length c.children) l)

-- ---- prior and evidence as a merge

pub posterior_listed : (children book : List ℕ) (n : Record) (i to : ℕ) → posterior (prior_of_node children n) (Some (evidence_at book i to)) ≡ record { ending = n.count + entry_count_at book i; children = merged_from children n.link book (i + 1) to }
unfolding posterior merged_from
posterior_listed children book n i to = refl

pub posterior_unlisted : (children book : List ℕ) (n : Record) → posterior (prior_of_node children n) None ≡ record { ending = n.count; children = merged_from children n.link book 0 0 }
unfolding posterior merged_from with_evidence rows
posterior_unlisted children book n = refl

-- ---- evidence alone

pub no_links : every_child [] (next_link_fits []) ≡ true
unfolding all_below
no_links = refl

pub no_chain_length : length (chain_of [] 0) ≡ 0
unfolding chain_of chain
no_chain_length = refl

pub evidence_merged : (book : List ℕ) (i to : ℕ) → Ascends 0 (keys (map child_row (part book (i + 1) to))) → evidence_at book i to ≡ record { ending = entry_count_at book i; children = merged_from [] 0 book (i + 1) to }
unfolding merged_from chain_of chain
evidence_merged book i to h = λ j. record { ending = entry_count_at book i; children = sym (evidence_alone 0 (map child_row (part book (i + 1) to)) h) j }

module _ (e : Counts) where
  pub total_none : total e ≡ 0 → evidence_prob_vector (Some e) ≡ None
  unfolding evidence_prob_vector with_total
  total_none h = rw (le-ltb 0 (total e) (omega arith))

  pub total_some : 0 < total e → evidence_prob_vector (Some e) ≡ Some e
  unfolding evidence_prob_vector with_total
  total_some h = rw (lt-ltb 0 (total e) h)

pub unlisted_none : evidence_prob_vector None ≡ None
unfolding evidence_prob_vector
unlisted_none = refl

-- ---- the cases of the readings

module _ (form : ℕ) (nodes children : List ℕ) (layer : ℕ) (ns : List Node) (rank have : ℕ) where
  pub prob_refused : (r : Reason) → reason_number r ≡ priors_refusal nodes children layer → prob_reading form nodes children layer ns rank have ≡ refused (reason_number r) None
  unfolding prob_reading
  prob_refused r e = sym (unless_reason r (priors_refusal nodes children layer) (unless form (vector_reading have (prob_vector (prior_of nodes children layer rank) (evidence_of rank ns)))) e (priors_unnamed nodes children layer))

  module _ (passed : priors_refusal nodes children layer ≡ 0) where
    pub prob_form : (r : Reason) → reason_number r ≡ form → names_none form ≡ true → prob_reading form nodes children layer ns rank have ≡ refused (reason_number r) None
    unfolding prob_reading
    prob_form r e h = rw passed (sym (unless_reason r form (vector_reading have (prob_vector (prior_of nodes children layer rank) (evidence_of rank ns))) e h))

    pub prob_none : form ≡ 0 → prior_of nodes children layer rank ≡ None → prob_reading form nodes children layer ns rank have ≡ nothing
    unfolding prob_reading prob_vector
    prob_none f h = rw (passed, f, h)

    pub prob_some : form ≡ 0 → (p : Counts) → prior_of nodes children layer rank ≡ Some p → prob_reading form nodes children layer ns rank have ≡ vector_reading have (Some (posterior p (evidence_of rank ns)))
    unfolding prob_reading prob_vector
    prob_some f p h = rw (passed, f, h)

module _ (form : ℕ) (ns : List Node) (rank have : ℕ) where
  pub evidence_form : (r : Reason) → reason_number r ≡ form → names_none form ≡ true → evidence_reading form ns rank have ≡ refused (reason_number r) None
  unfolding evidence_reading
  evidence_form r e h = sym (unless_reason r form (vector_reading have (evidence_prob_vector (evidence_of rank ns))) e h)

  pub evidence_formed : form ≡ 0 → evidence_reading form ns rank have ≡ vector_reading have (evidence_prob_vector (evidence_of rank ns))
  unfolding evidence_reading
  evidence_formed f = rw f
