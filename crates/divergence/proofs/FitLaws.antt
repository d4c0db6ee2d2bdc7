-- The tests of a node and its divergence: which case the tests lead to, and what a node that fits has. Assumes nothing.
use Rattle.std.proofs.Common.{◌≡◌, ℕ, ◌+◌, ◌<◌, ◌≤◌, Bool, true, false, cond, ◌&&◌, eqb, leb, List, length, sym, refl, ap, ◌∙◌, arith, eqb-true, le-leb, leb-false, leb-true}
use Rattle.std.specs.Prelude.{Option, None, Some, Result, Ok, Err, option_map}
use lib.Ieee.{Float}
use borrow.Author.Tests.{lt-leb}
use Rattle.priors.specs.declared.records.Record.{Record}
use Rattle.priors.specs.declared.prior.Prior.{Prior}
use Rattle.priors.specs.declared.lookups.Priors.{Priors}
use Rattle.priors.specs.declared.refusals.NodeReason.{NodeReason}
use Rattle.priors.specs.declared.refusals.NodeReason.TheVariants.{MissingChild, PastTable}
use Rattle.priors.specs.Limits.{max_table}
use Rattle.priors.specs.Tables.{lengths_fit, tables_refusal}
use Rattle.priors.specs.Priors.{Counts, total, records, find_record, prior_of, prior_of_node}
use Rattle.priors.proofs.BelowLaws.{first_true, second_true}
use Rattle.divergence.specs.declared.divergences.Fit.{Fit}
use Rattle.divergence.specs.Nodes.{Node}
use Rattle.divergence.specs.Divergence.{lacks_child, divergence, node_divergence}
use Rattle.divergence.specs.Fits.{fit_of}

-- ---- a node's prior

module _ (nodes children : List ℕ) (layer rank : ℕ) where
  pub prior_none : find_record layer rank (records nodes) ≡ None → prior_of nodes children layer rank ≡ None
  unfolding prior_of
  prior_none h = ap (option_map (prior_of_node children)) h

  prior_some : (n : Record) → find_record layer rank (records nodes) ≡ Some n → prior_of nodes children layer rank ≡ Some (prior_of_node children n)
  unfolding prior_of
  prior_some n h = ap (option_map (prior_of_node children)) h

-- the prior that a look-up finds
pub prior_found : (priors : Priors) (rank : ℕ) (prior : Prior) → Some prior.node ≡ find_record priors.layer rank (records priors.nodes.now) → prior.children.now ≡ priors.children.now
    → prior_of priors.nodes.now priors.children.now priors.layer rank ≡ Some (prior_of_node prior.children.now prior.node)
prior_found priors rank prior h lent = prior_some priors.nodes.now priors.children.now priors.layer rank prior.node (sym h) ∙ ap (λ (s : List ℕ). Some (prior_of_node s prior.node)) (sym lent)

-- ---- the tests

module _ (size : ℕ) (p e : Counts) where
  pub fit_lacks : lacks_child p.children e.children ≡ true → fit_of size p e ≡ Err MissingChild
  unfolding fit_of
  fit_lacks h = rw h

  module _ (h : lacks_child p.children e.children ≡ false) where
    pub fit_past : size ≤ total p + total e → fit_of size p e ≡ Err PastTable
    unfolding fit_of
    fit_past l = rw (h, le-leb size (total p + total e) l)

    pub fit_fits : total p + total e < size → fit_of size p e ≡ Ok (record { prior = total p; posterior = total p + total e })
    unfolding fit_of
    fit_fits l = rw (h, lt-leb size (total p + total e) l)

-- the divergence of a node by its tests
abbrev pub fit_divergence : List Float → List Float → Counts → Counts → Result Fit NodeReason → Result (Option Float) NodeReason
fit_divergence G D p e (Ok f) = Ok (Some (divergence G D p e))
fit_divergence G D p e (Err reason) = Err reason

module _ (G D : List Float) where
  pub divergence_none : (e : Counts) → node_divergence G D None e ≡ Ok None
  unfolding node_divergence
  divergence_none e = refl

  pub divergence_some : (p e : Counts) → node_divergence G D (Some p) e ≡ fit_divergence G D p e (fit_of (length G) p e)
  unfolding node_divergence fit_of
  divergence_some p e = go (lacks_child p.children e.children) (leb (length G) (total p + total e))
    where
      go : (b c : Bool) → cond b (Err MissingChild) (cond c (Err PastTable) (Ok (Some (divergence G D p e))))
          ≡ fit_divergence G D p e (cond b (Err MissingChild) (cond c (Err PastTable) (Ok (record { prior = total p; posterior = total p + total e }))))
      go true c = refl
      go false true = refl
      go false false = refl

-- the divergence of a node, by the look-up of its prior and by its tests
module _ (G D : List Float) (priors : Priors) (n : Node) (rank : ℕ) (is : rank ≡ n.address) where
  pub told_none : None ≡ find_record priors.layer rank (records priors.nodes.now) → node_divergence G D (prior_of priors.nodes.now priors.children.now priors.layer n.address) n.evidence ≡ Ok None
  told_none h =
      ap (λ (o : Option Counts). node_divergence G D o n.evidence) (prior_none priors.nodes.now priors.children.now priors.layer n.address (sym (rw is at h))) ∙ divergence_none G D n.evidence

  pub told_by : (prior : Prior) → Some prior.node ≡ find_record priors.layer rank (records priors.nodes.now) → prior.children.now ≡ priors.children.now
      → (r : Result Fit NodeReason) → r ≡ fit_of (length G) (prior_of_node prior.children.now prior.node) n.evidence
      → node_divergence G D (prior_of priors.nodes.now priors.children.now priors.layer n.address) n.evidence ≡ fit_divergence G D (prior_of_node prior.children.now prior.node) n.evidence r
  told_by prior h lent r e =
      let counts = prior_of_node prior.children.now prior.node in
      ap (λ (o : Option Counts). node_divergence G D o n.evidence) (prior_found priors n.address prior (rw is at h) lent) ∙ divergence_some G D counts n.evidence ∙ ap (fit_divergence G D counts n.evidence) (sym e)

-- what a node that fits has
pub record Fitting (size : ℕ) (p e : Counts) (f : Fit) : Type 0 where
  pub prior_is : f.prior ≡ total p
  pub posterior_is : f.posterior ≡ f.prior + total e
  pub within : f.posterior < size

pub fitting : (size : ℕ) (p e : Counts) (f : Fit) → fit_of size p e ≡ Ok f → Fitting size p e f
unfolding fit_of
fitting size p e f h = go (lacks_child p.children e.children) (leb size (total p + total e)) refl h
  where
    go : (b c : Bool) → leb size (total p + total e) ≡ c → cond b (Err MissingChild) (cond c (Err PastTable) (Ok (record { prior = total p; posterior = total p + total e }))) ≡ Ok f
        → Fitting size p e f
    go true c q h = let z : ◌≡◌ {A = ℕ} 0 1 = cc in absurd (omega arith)
    go false true q h = let z : ◌≡◌ {A = ℕ} 0 1 = cc in absurd (omega arith)
    go false false q h =
        let is : ◌≡◌ {A = Fit} (record { prior = total p; posterior = total p + total e }) f = cc in
        let prior : total p ≡ f.prior = ap (λ (f : Fit). f.prior) is in
        let posterior : total p + total e ≡ f.posterior = ap (λ (f : Fit). f.posterior) is in
        record { prior_is = sym prior; posterior_is = omega arith; within = omega (arith, leb-false size (total p + total e) q) }

-- accepted tables have one length, which is not too large
lengths_fit_lem : (G D : List Float) → tables_refusal G D ≡ 0 → lengths_fit G D ≡ true
unfolding tables_refusal
lengths_fit_lem G D h = go (lengths_fit G D) _ h
  where
    go : (b : Bool) (rest : ℕ) → cond b rest 1 ≡ 0 → b ≡ true
    go true rest h = refl
    go false rest h = absurd (omega arith)

module _ (G D : List Float) (h : tables_refusal G D ≡ 0) where
  abbrev long : Bool
  long = leb 2 (length G) && leb (length G) max_table

  pub tables_alike : length G ≡ length D
  unfolding lengths_fit
  tables_alike = eqb-true (length G) (length D) (first_true (eqb (length G) (length D)) long (lengths_fit_lem G D h))

  pub tables_few : length G ≤ max_table
  unfolding lengths_fit
  tables_few = leb-true (length G) max_table (second_true (leb 2 (length G)) (leb (length G) max_table) (second_true (eqb (length G) (length D)) long (lengths_fit_lem G D h)))
