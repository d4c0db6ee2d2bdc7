-- The passes that fill an output with all listed nodes: how the count of nodes with a prior, the first refusal and the filling go on from one node to the next.
-- Assumes nothing.
use Rattle.std.proofs.Common.{◌≡◌, ℕ, ◌+◌, ◌*◌, ◌<◌, ◌≤◌, Bool, true, false, cond, leb, List, [], ◌∷◌, length, set, sym, refl, ap, ◌∙◌, add-zero, zero-add, arith, length-set, le-ltb}
use Rattle.std.specs.Prelude.{Option, None, Some, is_some, option_map, Result, Ok, Err}
use mathlib.Core.List.{flat_map}
use lib.ListN.{length-map}
use lib.Ieee.{Float}
use Rattle.priors.specs.Word.{store}
use Rattle.priors.specs.Address.{address_of, address_bytes}
use Rattle.priors.specs.declared.refusals.Refusal.{Refusal}
use Rattle.priors.specs.declared.refusals.Refusal.TheVariants.{AtNode}
use Rattle.priors.specs.declared.refusals.NodeReason.{NodeReason}
use Rattle.priors.specs.declared.refusals.NodeReason.TheVariants.{MissingChild, PastTable}
use Rattle.priors.specs.Refusals.{number_of, named_node}
use Rattle.priors.specs.declared.records.Record.{Record}
use Rattle.priors.specs.Priors.{Counts, total, records, find_record, prior_of_node, prior_of}
use Rattle.priors.proofs.Fields.{length_store}
use Rattle.divergence.specs.Nodes.{Node}
use Rattle.divergence.specs.Divergence.{lacks_child, divergence, node_divergence}
use Rattle.divergence.specs.Statistics.{Place, Walk, stopped, walked, visited, walk}
use Rattle.divergence.specs.Readings.{refused, answered, has_prior, with_prior, walk_reading, all_listed, ranks_of, values_of, filled_addresses, filled_figures}
use Rattle.divergence.specs.Fillings.{stop_of, places_of, skipped_of}
use Rattle.divergence.proofs.OutputLaws.{filled_from, addresses_start, addresses_on, addresses_end, figures_start, figures_on, figures_end}

-- ---- how many have a prior

module _ (nodes children : List ℕ) (layer : ℕ) where
  pub priors_next : (n : Node) (ns left : List Node) → left ≡ n ∷ ns → with_prior nodes children layer left ≡ has_prior (prior_of nodes children layer n.address) + with_prior nodes children layer ns
  unfolding with_prior
  priors_next n ns left h = ap (with_prior nodes children layer) h

  pub priors_end : with_prior nodes children layer [] ≡ 0
  unfolding with_prior
  priors_end = refl

  -- a look-up tells whether there is one
  pub record_counted : (rank : ℕ) (o : Option Record) (b : Bool) → o ≡ find_record layer rank (records nodes) → is_some o ≡ b → has_prior (prior_of nodes children layer rank) ≡ cond b 1 0
  unfolding prior_of
  record_counted rank o b h e = ap (λ (r : Option Record). has_prior (option_map (prior_of_node children) r)) (sym h) ∙ go o ∙ ap (λ (a : Bool). cond a 1 0) e
    where
      go : (o : Option Record) → has_prior (option_map (prior_of_node children) o) ≡ cond (is_some o) 1 0
      go None = refl
      go (Some p) = refl

-- ---- the first refusal

-- a node that is not refused leaves it to the nodes after it
pub stop_placed : (node : ℕ) (x : Float) (rest : Walk) → stop_of (visited node (Ok (Some x)) rest) ≡ stop_of rest
stop_placed node x (stopped n a) = refl
stop_placed node x (walked ps k) = refl

pub stop_skipped : (node : ℕ) (rest : Walk) → stop_of (visited node (Ok None) rest) ≡ stop_of rest
stop_skipped node (stopped n a) = refl
stop_skipped node (walked ps k) = refl

pub stop_refused : (node : ℕ) (reason : NodeReason) (rest : Walk) → stop_of (visited node (Err reason) rest) ≡ Err (AtNode reason (address_of node))
stop_refused node MissingChild rest = refl
stop_refused node PastTable rest = refl

-- no walk is both
pub no_stop : (q : Refusal) → ◌≡◌ {A = Result (Unit {0}) Refusal} (Err q) (Ok tt) → ⊥
no_stop q h = let z : ◌≡◌ {A = ℕ} 0 1 = cc in omega arith

-- ---- a walk that is not stopped has a place for each node with a prior

-- how many places a node takes
abbrev needed : Result (Option Float) NodeReason → ℕ
needed (Ok (Some x)) = 1
needed (Ok None) = 0
needed (Err reason) = 0

places_on : (node : ℕ) (x : Result (Option Float) NodeReason) (rest : Walk) → stop_of (visited node x rest) ≡ Ok tt → (stop_of rest ≡ Ok tt) × (length (places_of (visited node x rest)) ≡ needed x + length (places_of rest))
places_on node (Ok (Some x)) (stopped n a) h = absurd (no_stop _ h)
places_on node (Ok (Some x)) (walked ps k) h = (refl, omega arith)
places_on node (Ok None) (stopped n a) h = absurd (no_stop _ h)
places_on node (Ok None) (walked ps k) h = (refl, omega arith)
places_on node (Err reason) rest h = absurd (no_stop _ (sym (stop_refused node reason rest) ∙ h))

module _ (G D : List Float) (nodes children : List ℕ) (layer : ℕ) where
  prior_needed : (node : ℕ) (o : Option Counts) (e : Counts) (rest : Walk) → stop_of (visited node (node_divergence G D o e) rest) ≡ Ok tt → has_prior o ≡ needed (node_divergence G D o e)
  unfolding node_divergence
  prior_needed node None e rest h = refl
  prior_needed node (Some p) e rest h = go (lacks_child p.children e.children) (leb (length G) (total p + total e)) h
    where
      go : (b c : Bool) → stop_of (visited node (cond b (Err MissingChild) (cond c (Err PastTable) (Ok (Some (divergence G D p e))))) rest) ≡ Ok tt → 1 ≡ needed (cond b (Err MissingChild) (cond c (Err PastTable) (Ok (Some (divergence G D p e)))))
      go true c h = absurd (no_stop _ h)
      go false true h = absurd (no_stop _ h)
      go false false h = refl

  pub places_number : (ns : List Node) → stop_of (walk G D nodes children layer ns) ≡ Ok tt → with_prior nodes children layer ns ≡ length (places_of (walk G D nodes children layer ns))
  unfolding walk with_prior
  places_number [] h = refl
  places_number (n ∷ ns) h =
      let prior = prior_of nodes children layer n.address in
      let on = places_on n.address (node_divergence G D prior n.evidence) (walk G D nodes children layer ns) h in
      omega (arith, prior_needed n.address prior n.evidence (walk G D nodes children layer ns) h, places_number ns on.0, on.1)

pub prior_le : (o : Option Counts) → has_prior o ≤ 1
prior_le None = omega arith
prior_le (Some p) = omega arith

-- ---- the filling, from node to node

-- where the nodes of `left` are still to come of all nodes `whole`, the outputs with what these put from the next place on are the outputs with all nodes
pub record FilledTo (whole left : Walk) (addresses₀ addresses : List ℕ) (figures₀ figures : List Float) (places skipped : ℕ) : Type 0 where
  pub unstopped : stop_of left ≡ Ok tt
  pub places_left : places + length (places_of left) ≡ length (places_of whole)
  pub skipped_left : skipped + skipped_of left ≡ skipped_of whole
  pub addresses_long : length addresses ≡ length addresses₀
  pub figures_long : length figures ≡ length figures₀
  pub addresses_left : store addresses (8 * places) (flat_map address_bytes (ranks_of (places_of left))) ≡ store addresses₀ 0 (flat_map address_bytes (ranks_of (places_of whole)))
  pub figures_left : filled_from places (values_of (places_of left)) figures ≡ filled_from 0 (values_of (places_of whole)) figures₀

module _ (whole : Walk) (addresses₀ : List ℕ) (figures₀ : List Float) where
  pub filled_start : stop_of whole ≡ Ok tt → FilledTo whole whole addresses₀ addresses₀ figures₀ figures₀ 0 0
  filled_start h = record {
    unstopped = h;
    places_left = zero-add (length (places_of whole));
    skipped_left = zero-add (skipped_of whole);
    addresses_long = refl;
    figures_long = refl;
    addresses_left = refl;
    figures_left = refl;
  }

  module _ (long : 8 * length (places_of whole) ≤ length addresses₀) (wide : length (places_of whole) ≤ length figures₀) (addresses : List ℕ) (figures : List Float) (places skipped node : ℕ) where
    -- a node with a divergence has a place
    pub filled_room : (x : Float) (rest : Walk) → FilledTo whole (visited node (Ok (Some x)) rest) addresses₀ addresses figures₀ figures places skipped
        → (8 * places + 8 ≤ length addresses) × (places < length figures)
    filled_room x (stopped n a) sofar = absurd (no_stop _ sofar.unstopped)
    filled_room x (walked ps k) sofar = (omega (arith, sofar.places_left, sofar.addresses_long), omega (arith, sofar.places_left, sofar.figures_long))

    -- and fills it
    pub filled_put : (x : Float) (rest : Walk) → FilledTo whole (visited node (Ok (Some x)) rest) addresses₀ addresses figures₀ figures places skipped
        → FilledTo whole rest addresses₀ (store addresses (8 * places) (address_bytes node)) figures₀ (set figures places x) (places + 1) skipped
    filled_put x (stopped n a) sofar = absurd (no_stop _ sofar.unstopped)
    filled_put x (walked ps k) sofar = record {
      unstopped = refl;
      places_left = omega (arith, sofar.places_left);
      skipped_left = sofar.skipped_left;
      addresses_long = length_store addresses (8 * places) (address_bytes node) (omega (arith, sofar.places_left, sofar.addresses_long)) ∙ sofar.addresses_long;
      figures_long = length-set figures places x ∙ sofar.figures_long;
      addresses_left = addresses_on addresses places node (ranks_of ps) (omega (arith, sofar.places_left, sofar.addresses_long, length-map ps (λ (p : Place). p.address))) ∙ sofar.addresses_left;
      figures_left = figures_on figures places x (values_of ps) (omega (arith, sofar.places_left, sofar.figures_long, length-map ps (λ (p : Place). p.value))) ∙ sofar.figures_left;
    }

  module _ (addresses : List ℕ) (figures : List Float) (places skipped : ℕ) where
    -- one without a prior is counted
    pub filled_skipped : (node : ℕ) (rest : Walk) → FilledTo whole (visited node (Ok None) rest) addresses₀ addresses figures₀ figures places skipped
        → FilledTo whole rest addresses₀ addresses figures₀ figures places (skipped + 1)
    filled_skipped node (stopped n a) sofar = absurd (no_stop _ sofar.unstopped)
    filled_skipped node (walked ps k) sofar = record {
      unstopped = refl;
      places_left = sofar.places_left;
      skipped_left = omega (arith, sofar.skipped_left);
      addresses_long = sofar.addresses_long;
      figures_long = sofar.figures_long;
      addresses_left = sofar.addresses_left;
      figures_left = sofar.figures_left;
    }

    -- and none is refused
    pub filled_refused : (node : ℕ) (reason : NodeReason) (rest : Walk) → FilledTo whole (visited node (Err reason) rest) addresses₀ addresses figures₀ figures places skipped → ⊥
    filled_refused node reason rest sofar = no_stop _ (sym (stop_refused node reason rest) ∙ sofar.unstopped)

    module _ (sofar : FilledTo whole (walked [] 0) addresses₀ addresses figures₀ figures places skipped) where
      pub end_places : places ≡ length (places_of whole)
      end_places = sym (add-zero places) ∙ sofar.places_left

      pub end_skipped : skipped ≡ skipped_of whole
      end_skipped = sym (add-zero skipped) ∙ sofar.skipped_left

      pub end_addresses : addresses ≡ filled_addresses (ranks_of (places_of whole)) addresses₀
      unfolding flat_map
      end_addresses = sym (addresses_end addresses (8 * places)) ∙ sofar.addresses_left ∙ addresses_start addresses₀ (ranks_of (places_of whole))

      pub end_figures : figures ≡ filled_figures (values_of (places_of whole)) figures₀
      end_figures = sym (figures_end figures places) ∙ sofar.figures_left ∙ figures_start figures₀ (values_of (places_of whole))

-- ---- the answer, by the passes

module _ (G D : List Float) (nodes children : List ℕ) (layer : ℕ) where
  stop_visited : (node : ℕ) (x : Result (Option Float) NodeReason) (rest : Walk) → ((q : Refusal) → stop_of rest ≡ Err q → refused (number_of q) (named_node q) ≡ walk_reading rest) → (q : Refusal) → stop_of (visited node x rest) ≡ Err q
      → refused (number_of q) (named_node q) ≡ walk_reading (visited node x rest)
  stop_visited node (Ok (Some x)) (stopped n a) on q h = on q h
  stop_visited node (Ok (Some x)) (walked ps k) on q h = absurd (no_stop q (sym h))
  stop_visited node (Ok None) (stopped n a) on q h = on q h
  stop_visited node (Ok None) (walked ps k) on q h = absurd (no_stop q (sym h))
  stop_visited node (Err MissingChild) rest on q h = let e : q ≡ AtNode MissingChild (address_of node) = cc in ap (λ (p : Refusal). refused (number_of p) (named_node p)) e
  stop_visited node (Err PastTable) rest on q h = let e : q ≡ AtNode PastTable (address_of node) = cc in ap (λ (p : Refusal). refused (number_of p) (named_node p)) e

  stop_reading : (ns : List Node) (q : Refusal) → stop_of (walk G D nodes children layer ns) ≡ Err q → refused (number_of q) (named_node q) ≡ walk_reading (walk G D nodes children layer ns)
  unfolding walk
  stop_reading [] q h = absurd (no_stop q (sym h))
  stop_reading (n ∷ ns) q h = stop_visited n.address (node_divergence G D (prior_of nodes children layer n.address) n.evidence) (walk G D nodes children layer ns) (stop_reading ns) q h

  module _ (ns : List Node) (have : ℕ) where
    module _ (enough : with_prior nodes children layer ns ≤ have) where
      -- 14 or 15
      pub all_stopped : (q : Refusal) → stop_of (walk G D nodes children layer ns) ≡ Err q → all_listed G D nodes children layer ns have ≡ refused (number_of q) (named_node q)
      all_stopped q h = rw (le-ltb have (with_prior nodes children layer ns) enough) (sym (stop_reading ns q h))

      -- each node with a prior has a place
      pub all_filled : stop_of (walk G D nodes children layer ns) ≡ Ok tt → all_listed G D nodes children layer ns have ≡ answered (record { places = places_of (walk G D nodes children layer ns); skipped = skipped_of (walk G D nodes children layer ns) })
      all_filled h = rw (le-ltb have (with_prior nodes children layer ns) enough) (go (walk G D nodes children layer ns) h)
        where
          go : (w : Walk) → stop_of w ≡ Ok tt → walk_reading w ≡ answered (record { places = places_of w; skipped = skipped_of w })
          go (stopped n a) h = absurd (no_stop _ h)
          go (walked ps k) h = refl
