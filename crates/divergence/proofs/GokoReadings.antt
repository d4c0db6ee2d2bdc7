-- A reading that is not refused tells what goko's methods give: its priors have passed 3 to 7 and its tracker the form, so that no total passes 2 ^ 53 and no index is
-- 0 or past the tables' end. Assumes nothing.
use Rattle.std.proofs.Common.{◌≡◌, ℕ, zero, suc, ◌+◌, ◌*◌, ◌^◌, ◌<◌, ◌≤◌, Bool, true, false, cond, eqb, ltb, leb, ◌⊎◌, List, [], ◌∷◌, length, sym, refl, ap, ◌∙◌, inl, inr, arith, lt-ltb, leb-false}
use Rattle.std.specs.Prelude.{Option, None, Some, option_map}
use lib.ListN.{length-map}
use lib.Ieee.{Float}
use Rattle.priors.specs.declared.records.Record.{Record}
use Rattle.priors.specs.Rows.{Row}
use Rattle.priors.specs.Tables.{tables_refusal}
use Rattle.priors.specs.Priors.{LentPriors, layer_of, Counts, count_sum, total, records, find_record, prior_of, prior_of_node, priors_refusal}
use Rattle.priors.proofs.Ranks.{Bytes}
use Rattle.priors.proofs.RuleLaws.{names_none}
use Rattle.priors.proofs.PriorLaws.{accepted, Positive, prior_positive, found_small, found_fits, total_le}
use Rattle.book.specs.declared.trackers.Tracker.{Tracker}
use Rattle.entries.specs.Limits.{max_count}
use Rattle.entries.specs.Keys.{node_of, kind_of}
use Rattle.entries.specs.Entries.{rows, CountsUpTo}
use Rattle.book.specs.Form.{in_form}
use Rattle.book.specs.Figures.{All}
use Rattle.book.proofs.PathLaws.{all_bytes}
use Rattle.entries.proofs.EntryLaws.{length_rows}
use Rattle.book.proofs.FormLaws.{formed_counts}
use Rattle.book.proofs.CallLaws.{form_formed}
use Rattle.std.specs.Prelude.{Result, Ok, Err}
use Rattle.priors.specs.declared.refusals.NodeReason.{NodeReason}
use Rattle.priors.specs.declared.refusals.NodeReason.TheVariants.{MissingChild, PastTable}
use Rattle.divergence.specs.Nodes.{Node, child_row, spread, listed_nodes, evidence_of}
use Rattle.divergence.specs.Probability.{prob_vector, evidence_prob_vector, with_total, posterior}
use Rattle.divergence.specs.Divergence.{divergence, lacks_child, node_divergence}
use Rattle.divergence.specs.Statistics.{Place, Walk, walked, placed, skipping, visited, walk}
use Rattle.divergence.specs.Readings.{Reading, refused, nothing, answered, mapped, unless, fitting, vector_reading, prob_reading, evidence_reading, divergence_reading, of_listed, kl_reading, Divergences, with_prior, walk_reading, all_reading, stats_reading_of, stats_reading, form_refusal, nodes_of, sequence_len}
use Rattle.divergence.specs.Answers.{vector_result, all_result}
use Rattle.divergence.specs.Asked.{Output, vector_telling, all_telling, room_in}
use Rattle.divergence.specs.Corollaries.{reading_number}
use Rattle.divergence.specs.GokoFloats.{float_counts, float_vector, goko_prob_vector, goko_evidence_vector, where_found, goko_stats, goko_kl, goko_node_kl, goko_visited, goko_all_kl, Tabled, vector_given, figure_given, stats_given, GokoGivesTheSame}
use Rattle.divergence.proofs.FitLaws.{tables_alike, tables_few}
use Rattle.divergence.proofs.CheckLaws.{form_few, form_true, checks_unnamed, checks_are}
use Rattle.divergence.specs.Checks.{checks_refusal}
use Rattle.divergence.proofs.NumberLaws.{walk_number, placed_number, skipping_number, walk_number_lem, stats_number}
use Rattle.divergence.proofs.GokoLaws.{kl_none, stats_same, length_same, posterior_total, evidence_whole, vector_of, vector_whole, vector_keys, vector_figures_lem, kl_whole}

-- ---- a reading that is not refused has passed its checks

passed : {X : Type 0} (n : ℕ) (r : Reading X) → reading_number (unless n r) ≡ 0 → (n ≡ 0) × (unless n r ≡ r) × (reading_number r ≡ 0)
passed zero r h = (refl, refl, h)
passed (suc n) r h = absurd (omega arith)

-- what is told of an answer has the answer's number
mapped_number : {X Y : Type 0} (part : X → Y) (r : Reading X) → reading_number (mapped part r) ≡ reading_number r
mapped_number part (refused n at) = refl
mapped_number part nothing = refl
mapped_number part (answered x) = refl

vector_number : (r : Reading Counts) → reading_number (vector_result r) ≡ reading_number r
vector_number r = mapped_number _ r

all_number : (r : Reading Divergences) → reading_number (all_result r) ≡ reading_number r
all_number r = mapped_number _ r

fitted : {X : Type 0} (places have : ℕ) (r : Reading X) → reading_number (fitting places have r) ≡ 0 → (fitting places have r ≡ r) × (reading_number r ≡ 0)
fitted places have r h = go (ltb have places) h
  where
    go : (b : Bool) → reading_number (cond b (refused 13 None) r) ≡ 0 → (cond b (refused 13 None) r ≡ r) × (reading_number r ≡ 0)
    go true h = absurd (omega arith)
    go false h = (refl, h)

-- ---- totals within the form

abbrev most : ℕ
most = 2 ^ 30 * 16384

counts_sum : (rs : List Row) → CountsUpTo max_count rs → count_sum rs ≤ 2 ^ 30 * length rs
unfolding count_sum
counts_sum [] h = omega arith
counts_sum (r ∷ rs) h = omega (arith, counts_sum rs h.1)

-- the counts at the front and the nodes' totals are all counts
abbrev Within : ℕ → List Row × List Node → Type 0
Within n s = (count_sum s.0 ≤ n) × All (λ (m : Node). total m.evidence ≤ n) s.1

all_within : (m n : ℕ) (ns : List Node) → m ≤ n → All (λ (x : Node). total x.evidence ≤ m) ns → All (λ (x : Node). total x.evidence ≤ n) ns
all_within m n [] l h = tt
all_within m n (x ∷ ns) l h = (omega arith, all_within m n ns l h.1)

spread_within : (rs : List Row) → Within (count_sum rs) (spread rs)
unfolding spread count_sum total
spread_within [] = (omega arith, tt)
spread_within (r ∷ rs) = go (eqb (kind_of r.key) 0) (spread_within rs)
  where
    go : (b : Bool) → Within (count_sum rs) (spread rs)
        → Within (r.count + count_sum rs) (cond b ([], record { address = node_of r.key; evidence = record { ending = r.count; children = (spread rs).0 } } ∷ (spread rs).1) (child_row r ∷ (spread rs).0, (spread rs).1))
    go true h = (omega arith, (omega arith, all_within (count_sum rs) (r.count + count_sum rs) (spread rs).1 (omega arith) h.1))
    go false h = (omega arith, all_within (count_sum rs) (r.count + count_sum rs) (spread rs).1 (omega arith) h.1)

abbrev Light : List Node → Type 0
Light = All (λ (n : Node). total n.evidence ≤ most)

form_light : (t : Tracker) (book queue : List ℕ) → in_form t book queue ≡ true → Light (nodes_of t book)
unfolding listed_nodes
form_light t book queue h =
    let rs = rows book t.used in
    let few : length rs ≤ 16384 = omega (arith, form_few t book queue h, length_rows book t.used) in
    all_within (count_sum rs) most (spread rs).1 (omega (arith, counts_sum rs (formed_counts rs (form_formed t book queue h)))) (spread_within rs).1

found_light : (rank : ℕ) (ns : List Node) → Light ns → (e : Counts) → evidence_of rank ns ≡ Some e → total e ≤ most
unfolding evidence_of
found_light rank [] light e h = let z : ◌≡◌ {A = ℕ} 0 1 = cc in absurd (omega arith)
found_light rank (n ∷ ns) light e h = go (eqb n.address rank) h (found_light rank ns light.1 e)
  where
    go : (b : Bool) → cond b (Some n.evidence) (evidence_of rank ns) ≡ Some e → (evidence_of rank ns ≡ Some e → total e ≤ most) → total e ≤ most
    go true h on = let is : n.evidence ≡ e = cc in rw (← is) light.0
    go false h on = on h

-- ---- what a prior is: its total is positive and fits, and no child's count is 0

record Sound (o : Option Counts) : Type 0 where
  positive : (p : Counts) → o ≡ Some p → Positive p
  fits : (p : Counts) → o ≡ Some p → total p < 2 ^ 32 * 65

prior_sound : (nodes children : List ℕ) (layer : ℕ) → Bytes nodes → Bytes children → priors_refusal nodes children layer ≡ 0 → (rank : ℕ) → Sound (prior_of nodes children layer rank)
unfolding prior_of
prior_sound nodes children layer n c ok rank = record { positive = prior_positive nodes children layer (accepted nodes children layer ok) rank; fits = λ p h. go (find_record layer rank (records nodes)) refl p h }
  where
    go : (o : Option Record) → find_record layer rank (records nodes) ≡ o → (p : Counts) → option_map (prior_of_node children) o ≡ Some p → total p < 2 ^ 32 * 65
    go None e p h = let z : ◌≡◌ {A = ℕ} 0 1 = cc in absurd (omega arith)
    go (Some r) e p h =
        let is : prior_of_node children r ≡ p = cc in
        rw (← is) (total_le children c r (found_small nodes n layer rank r e) (found_fits nodes children layer (accepted nodes children layer ok) rank r e))

-- ---- probabilities

vector_given_lem : (o : Output) (c : Option Counts) → reading_number (vector_reading (room_in o) c) ≡ 0 → vector_telling o (vector_reading (room_in o) c) ≡ vector_given o (option_map vector_of c)
vector_given_lem o None h = refl
vector_given_lem o (Some c) h = ap (vector_telling o) (fitted (length c.children) (room_in o) (answered c) h).0 ∙ rw (vector_keys c, vector_figures_lem c, length-map) refl

vector_some : (c : Counts) → 0 < total c → total c ≤ 2 ^ 53 → float_vector (float_counts c) ≡ Some (vector_of c)
vector_some c h l = vector_whole c l ∙ ap (λ (b : Bool). cond b (Some (vector_of c)) None) (lt-ltb 0 (total c) h)

posterior_given : (o e : Option Counts) → Sound o → ((x : Counts) → e ≡ Some x → total x ≤ most) → option_map vector_of (prob_vector o e) ≡ goko_prob_vector o e
unfolding prob_vector goko_prob_vector posterior
posterior_given None e sound light = refl
posterior_given (Some p) None sound light = sym (vector_some p (sound.positive p refl).total_positive (omega (arith, sound.fits p refl)))
posterior_given (Some p) (Some e) sound light =
    let l : total p + total e ≤ 2 ^ 53 = omega (arith, sound.fits p refl, light e refl) in
    let is = posterior_total p e in
    let t = (sound.positive p refl).total_positive in
    sym (ap float_vector (evidence_whole p e l) ∙ vector_some (posterior p (Some e)) (omega arith) (omega arith))

evidence_given : (e : Option Counts) → ((x : Counts) → e ≡ Some x → total x ≤ most) → option_map vector_of (evidence_prob_vector e) ≡ goko_evidence_vector e
unfolding evidence_prob_vector with_total goko_evidence_vector
evidence_given None light = refl
evidence_given (Some e) light = go (ltb 0 (total e)) ∙ sym (vector_whole e (omega (arith, light e refl)))
  where
    go : (b : Bool) → option_map vector_of (cond b (Some e) None) ≡ cond b (Some (vector_of e)) None
    go true = refl
    go false = refl

-- ---- divergences

-- a list of goko's and a walk that is not stopped are the same
abbrev WalkGiven : Option Divergences → Walk → Type 0
WalkGiven rest w = walk_number w ≡ 0 → (d : Divergences) × (rest ≡ Some d) × (w ≡ walked d.places d.skipped)

module _ (lnGamma digamma : Float → Float) (G D : List Float) (g : Tabled lnGamma G) (d : Tabled digamma D) (ok : tables_refusal G D ≡ 0) where
  -- what a node with evidence e comes to, and goko's answer for it
  data NodeGiven (o : Option Counts) (e : Counts) : (Result (Option Float) NodeReason) → Type 0 where
    valued : (p : Counts) (x : Float) → o ≡ Some p → goko_kl lnGamma digamma (float_counts p) (float_counts e) ≡ Some x → NodeGiven o e (Ok (Some x))
    unknown : o ≡ None → NodeGiven o e (Ok None)
    lacking : NodeGiven o e (Err MissingChild)
    past : NodeGiven o e (Err PastTable)

  node_given : (o : Option Counts) (e : Counts) → Sound o → total e ≤ most → NodeGiven o e (node_divergence G D o e)
  unfolding node_divergence
  node_given None e sound light = unknown refl
  node_given (Some p) e sound light = go (lacks_child p.children e.children) refl (leb (length G) (total p + total e)) refl
    where
      go : (a : Bool) → lacks_child p.children e.children ≡ a → (b : Bool) → leb (length G) (total p + total e) ≡ b
          → NodeGiven (Some p) e (cond a (Err MissingChild) (cond b (Err PastTable) (Ok (Some (divergence G D p e)))))
      go true i b j = lacking
      go false i true j = past
      go false i false j =
          let l = leb-false (length G) (total p + total e) j in
          valued p (divergence G D p e) refl
          (kl_whole lnGamma digamma G D g d (tables_alike G D ok) (omega (arith, tables_few G D ok)) p (sound.positive p refl) (omega arith) e i l)

  kl_given : (rank : ℕ) (o : Option Counts) (e : Counts) {r : (Result (Option Float) NodeReason)} → NodeGiven o e r → reading_number (divergence_reading rank r) ≡ 0
      → divergence_reading rank r ≡ figure_given (goko_node_kl lnGamma digamma o (Some e))
  unfolding goko_node_kl
  kl_given rank o e (valued p x i j) h = rw (i, j)
  kl_given rank o e (unknown i) h = rw i
  kl_given rank o e lacking h = absurd (omega arith)
  kl_given rank o e past h = absurd (omega arith)

  visited_given : (node : ℕ) (o : Option Counts) (e : Counts) {r : (Result (Option Float) NodeReason)} → NodeGiven o e r → (rest : Option Divergences) (w : Walk) → WalkGiven rest w
      → WalkGiven (goko_visited lnGamma digamma node o e rest) (visited node r w)
  visited_given node o e (valued p x i j) rest w on h =
      let place : Place = record { address = node; value = x } in
      let d = on (sym (placed_number place w) ∙ h) in
      (record { places = place ∷ d.0.places; skipped = d.0.skipped }, rw (i, j, d.1), ap (placed place) d.2)
  visited_given node o e (unknown i) rest w on h =
      let d = on (sym (skipping_number w) ∙ h) in
      (record { places = d.0.places; skipped = suc d.0.skipped }, rw (i, d.1), ap skipping d.2)
  visited_given node o e lacking rest w on h = absurd (omega arith)
  visited_given node o e past rest w on h = absurd (omega arith)

  module _ (nodes children : List ℕ) (layer : ℕ) (sound : (rank : ℕ) → Sound (prior_of nodes children layer rank)) where
    walk_given : (ns : List Node) → Light ns → WalkGiven (goko_all_kl lnGamma digamma (prior_of nodes children layer) ns) (walk G D nodes children layer ns)
    unfolding goko_all_kl walk
    walk_given [] light h = (record { places = []; skipped = 0 }, refl, refl)
    walk_given (n ∷ ns) light h =
        let o = prior_of nodes children layer n.address in
        visited_given n.address o n.evidence (node_given o n.evidence (sound n.address) light.0) (goko_all_kl lnGamma digamma (prior_of nodes children layer) ns)
        (walk G D nodes children layer ns) (walk_given ns light.1) h

    listed_given : (rank : ℕ) (e : Option Counts) → ((x : Counts) → e ≡ Some x → total x ≤ most) → reading_number (of_listed G D nodes children layer rank e) ≡ 0
        → of_listed G D nodes children layer rank e ≡ figure_given (goko_node_kl lnGamma digamma (prior_of nodes children layer rank) e)
    unfolding goko_node_kl
    listed_given rank None light h = go (prior_of nodes children layer rank)
      where
        go : (o : Option Counts) → ◌≡◌ {A = Reading Float} nothing (figure_given (where_found o (λ p. None)))
        go None = refl
        go (Some p) = refl
    listed_given rank (Some e) light h =
        let o = prior_of nodes children layer rank in
        kl_given rank o e (node_given o e (sound rank) (light e refl)) h

-- goko's loop over a list, with its sequence length
stats_given_lem : (t : Tracker) (d : Divergences) → stats_reading_of (sequence_len t) (walked d.places d.skipped) ≡ stats_given t d
stats_given_lem t d =
    let is = stats_same (sequence_len t) d.places ∙ ap (λ (n : ℕ). goko_stats n d.places) (length_same t.window t.accepted) in
    λ i. answered (record { stats = is i; skipped = d.skipped })

-- ---- a missing child

-- a reading past checks that name no node
fourteen : {X : Type 0} (n : ℕ) (r : Reading X) → names_none n ≡ true → reading_number (unless n r) ≡ 14 → reading_number r ≡ 14
fourteen zero r h e = e
fourteen (suc n) r h e = let z : ◌≡◌ {A = ℕ} 0 1 = cc (ap names_none e) in absurd (omega arith)

fitting_fourteen : {X : Type 0} (places have : ℕ) (r : Reading X) → reading_number (fitting places have r) ≡ 14 → reading_number r ≡ 14
fitting_fourteen places have r h = go (ltb have places) h
  where
    go : (b : Bool) → reading_number (cond b (refused 13 None) r) ≡ 14 → reading_number r ≡ 14
    go true h = absurd (omega arith)
    go false h = h

-- on to none is none
never : {X Y : Type 0} (o : Option X) → where_found {Y = Y} o (λ x. None) ≡ None
never None = refl
never (Some x) = refl

module _ (lnGamma digamma : Float → Float) (G D : List Float) where
  -- what a node with a prior comes to: goko has no figure, or 14 does not come from it
  node_lacks : (p e : Counts) → (goko_kl lnGamma digamma (float_counts p) (float_counts e) ≡ None) ⊎ ((node_divergence G D (Some p) e ≡ (Err PastTable)) ⊎ (node_divergence G D (Some p) e ≡ Ok (Some (divergence G D p e))))
  unfolding node_divergence
  node_lacks p e = go (lacks_child p.children e.children) refl (leb (length G) (total p + total e))
    where
      go : (a : Bool) → lacks_child p.children e.children ≡ a → (b : Bool)
          → (goko_kl lnGamma digamma (float_counts p) (float_counts e) ≡ None)
          ⊎ ((cond a (Err MissingChild) (cond b (Err PastTable) (Ok (Some (divergence G D p e)))) ≡ (Err PastTable)) ⊎ (cond a (Err MissingChild) (cond b (Err PastTable) (Ok (Some (divergence G D p e)))) ≡ Ok (Some (divergence G D p e))))
      go true i b = inl (kl_none lnGamma digamma p e i)
      go false i true = inr (inl refl)
      go false i false = inr (inr refl)

  one_lacks : (rank : ℕ) (o : Option Counts) (e : Counts) → reading_number (divergence_reading rank (node_divergence G D o e)) ≡ 14 → goko_node_kl lnGamma digamma o (Some e) ≡ None
  unfolding goko_node_kl
  one_lacks rank None e h = refl
  one_lacks rank (Some p) e h = go (node_lacks p e)
    where
      go : (goko_kl lnGamma digamma (float_counts p) (float_counts e) ≡ None) ⊎ ((node_divergence G D (Some p) e ≡ (Err PastTable)) ⊎ (node_divergence G D (Some p) e ≡ Ok (Some (divergence G D p e))))
          → goko_kl lnGamma digamma (float_counts p) (float_counts e) ≡ None
      go (inl i) = i
      go (inr (inl i)) = let z : ◌≡◌ {A = ℕ} 15 14 = sym (ap (λ (r : (Result (Option Float) NodeReason)). reading_number (divergence_reading rank r)) i) ∙ h in absurd (omega arith)
      go (inr (inr i)) = let z : ◌≡◌ {A = ℕ} 0 14 = sym (ap (λ (r : (Result (Option Float) NodeReason)). reading_number (divergence_reading rank r)) i) ∙ h in absurd (omega arith)

  module _ (nodes children : List ℕ) (layer : ℕ) where
    listed_lacks : (rank : ℕ) (e : Option Counts) → reading_number (of_listed G D nodes children layer rank e) ≡ 14 → goko_node_kl lnGamma digamma (prior_of nodes children layer rank) e ≡ None
    listed_lacks rank None h = absurd (omega arith)
    listed_lacks rank (Some e) h = one_lacks rank (prior_of nodes children layer rank) e h

    visited_lacks : (node : ℕ) (o : Option Counts) (e : Counts) (rest : Option Divergences) (w : Walk) → (walk_number w ≡ 14 → rest ≡ None)
        → walk_number (visited node (node_divergence G D o e) w) ≡ 14 → goko_visited lnGamma digamma node o e rest ≡ None
    unfolding node_divergence
    visited_lacks node None e rest w on h = rw (on (sym (skipping_number w) ∙ h))
    visited_lacks node (Some p) e rest w on h = go (node_lacks p e)
      where
        number : (r : (Result (Option Float) NodeReason)) → node_divergence G D (Some p) e ≡ r → walk_number (visited node r w) ≡ 14
        number r i = sym (ap (λ (x : (Result (Option Float) NodeReason)). walk_number (visited node x w)) i) ∙ h

        go : (goko_kl lnGamma digamma (float_counts p) (float_counts e) ≡ None) ⊎ ((node_divergence G D (Some p) e ≡ (Err PastTable)) ⊎ (node_divergence G D (Some p) e ≡ Ok (Some (divergence G D p e))))
            → goko_visited lnGamma digamma node (Some p) e rest ≡ None
        go (inl i) = rw i
        go (inr (inl i)) = let z : ◌≡◌ {A = ℕ} 15 14 = number (Err PastTable) i in absurd (omega arith)
        go (inr (inr i)) = rw (on (sym (placed_number (record { address = node; value = divergence G D p e }) w) ∙ number (Ok (Some (divergence G D p e))) i)) (never (goko_kl lnGamma digamma (float_counts p) (float_counts e)))

    walk_lacks : (ns : List Node) → walk_number (walk G D nodes children layer ns) ≡ 14 → goko_all_kl lnGamma digamma (prior_of nodes children layer) ns ≡ None
    unfolding walk goko_all_kl
    walk_lacks [] h = absurd (omega arith)
    walk_lacks (n ∷ ns) h =
        visited_lacks n.address (prior_of nodes children layer n.address) n.evidence (goko_all_kl lnGamma digamma (prior_of nodes children layer) ns) (walk G D nodes children layer ns) (walk_lacks ns) h

-- ---- the readings

module _ (t : Tracker) (book queue : List ℕ) (priors : LentPriors) (nb : All (λ b. b < 256) priors.nodes) (cb : All (λ b. b < 256) priors.children) where
  abbrev form : ℕ
  form = form_refusal t book queue

  abbrev listed : List Node
  listed = nodes_of t book

  abbrev prior : ℕ → Option Counts
  prior = prior_of priors.nodes priors.children (layer_of priors.floor)

  abbrev priors_of : ℕ
  priors_of = priors_refusal priors.nodes priors.children (layer_of priors.floor)

  sound : priors_of ≡ 0 → (rank : ℕ) → Sound (prior rank)
  sound ok rank = prior_sound priors.nodes priors.children (layer_of priors.floor) (all_bytes priors.nodes nb) (all_bytes priors.children cb) ok rank

  light : form ≡ 0 → Light listed
  light ok = form_light t book queue (form_true (in_form t book queue) ok)

  found : form ≡ 0 → (rank : ℕ) (x : Counts) → evidence_of rank listed ≡ Some x → total x ≤ most
  found ok rank x h = found_light rank listed (light ok) x h

  module _ (rank : ℕ) (o : Output) where
    prob_given : reading_number (prob_reading form priors.nodes priors.children (layer_of priors.floor) listed rank (room_in o)) ≡ 0
        → vector_telling o (prob_reading form priors.nodes priors.children (layer_of priors.floor) listed rank (room_in o)) ≡ vector_given o (goko_prob_vector (prior rank) (evidence_of rank listed))
    unfolding prob_reading
    prob_given h =
        let c = prob_vector (prior rank) (evidence_of rank listed) in
        let a = passed priors_of (unless form (vector_reading (room_in o) c)) h in
        let b = passed form (vector_reading (room_in o) c) a.2 in
        ap (vector_telling o) (a.1 ∙ b.1) ∙ vector_given_lem o c b.2 ∙ ap (vector_given o) (posterior_given (prior rank) (evidence_of rank listed) (sound a.0 rank) (found b.0 rank))

    evidence_told : reading_number (evidence_reading form listed rank (room_in o)) ≡ 0
        → vector_telling o (evidence_reading form listed rank (room_in o)) ≡ vector_given o (goko_evidence_vector (evidence_of rank listed))
    unfolding evidence_reading
    evidence_told h =
        let c = evidence_prob_vector (evidence_of rank listed) in
        let b = passed form (vector_reading (room_in o) c) h in
        ap (vector_telling o) b.1 ∙ vector_given_lem o c b.2 ∙ ap (vector_given o) (evidence_given (evidence_of rank listed) (found b.0 rank))

  module _ (lnGamma digamma : Float → Float) (G D : List Float) (g : Tabled lnGamma G) (d : Tabled digamma D) where
    -- the three checks
    record Passed {X : Type 0} (r : Reading X) : Type 0 where
      tables_pass : tables_refusal G D ≡ 0
      priors_pass : priors_of ≡ 0
      form_pass : form ≡ 0
      is : unless (tables_refusal G D) (unless priors_of (unless form r)) ≡ r
      not_refused : reading_number r ≡ 0

    passes : {X : Type 0} (r : Reading X) → reading_number (unless (tables_refusal G D) (unless priors_of (unless form r))) ≡ 0 → Passed r
    passes r h =
        let a = passed (tables_refusal G D) (unless priors_of (unless form r)) h in
        let b = passed priors_of (unless form r) a.2 in
        let c = passed form r b.2 in
        record { tables_pass = a.0; priors_pass = b.0; form_pass = c.0; is = a.1 ∙ b.1 ∙ c.1; not_refused = c.2 }

    abbrev list : Option Divergences
    list = goko_all_kl lnGamma digamma prior listed

    kl_told : (rank : ℕ) → reading_number (kl_reading form G D priors.nodes priors.children (layer_of priors.floor) listed rank) ≡ 0
        → kl_reading form G D priors.nodes priors.children (layer_of priors.floor) listed rank ≡ figure_given (goko_node_kl lnGamma digamma (prior rank) (evidence_of rank listed))
    unfolding kl_reading
    kl_told rank h =
        let a = passes (of_listed G D priors.nodes priors.children (layer_of priors.floor) rank (evidence_of rank listed)) h in
        a.is
        ∙ listed_given lnGamma digamma G D g d a.tables_pass priors.nodes priors.children (layer_of priors.floor) (sound a.priors_pass) rank (evidence_of rank listed) (found a.form_pass rank) a.not_refused

    walk_told : {X : Type 0} (r : Reading X) → Passed r → WalkGiven list (walk G D priors.nodes priors.children (layer_of priors.floor) listed)
    walk_told r a = walk_given lnGamma digamma G D g d a.tables_pass priors.nodes priors.children (layer_of priors.floor) (sound a.priors_pass) listed (light a.form_pass)

    all_told : (o : Output) → reading_number (all_reading form G D priors.nodes priors.children (layer_of priors.floor) listed (room_in o)) ≡ 0
        → (x : Divergences) × (list ≡ Some x) × (all_telling o (all_reading form G D priors.nodes priors.children (layer_of priors.floor) listed (room_in o)) ≡ all_telling o (answered x))
    unfolding all_reading
    all_told o h =
        let w = walk G D priors.nodes priors.children (layer_of priors.floor) listed in
        let r = fitting (with_prior priors.nodes priors.children (layer_of priors.floor) listed) (room_in o) (walk_reading w) in
        let a = passes r h in
        let f = fitted (with_prior priors.nodes priors.children (layer_of priors.floor) listed) (room_in o) (walk_reading w) a.not_refused in
        let x = walk_told r a (sym (walk_number_lem w) ∙ f.1) in
        (x.0, x.1, ap (all_telling o) (a.is ∙ f.0 ∙ ap walk_reading x.2))

    stats_told : reading_number (stats_reading form G D priors.nodes priors.children (layer_of priors.floor) listed (sequence_len t)) ≡ 0
        → (x : Divergences) × (list ≡ Some x) × (stats_reading form G D priors.nodes priors.children (layer_of priors.floor) listed (sequence_len t) ≡ stats_given t x)
    unfolding stats_reading
    stats_told h =
        let w = walk G D priors.nodes priors.children (layer_of priors.floor) listed in
        let len = sequence_len t in
        let a = passes (stats_reading_of len w) h in
        let x = walk_told (stats_reading_of len w) a (sym (stats_number len w) ∙ a.not_refused) in
        (x.0, x.1, a.is ∙ ap (stats_reading_of len) x.2 ∙ stats_given_lem t x.0)

    -- ---- refused by 14

    checked_fourteen : {X : Type 0} (r : Reading X) → reading_number (unless (tables_refusal G D) (unless priors_of (unless form r))) ≡ 14 → reading_number r ≡ 14
    checked_fourteen r h =
        fourteen (checks_refusal t book queue priors.nodes priors.children (layer_of priors.floor) G D) r (checks_unnamed t book queue priors.nodes priors.children (layer_of priors.floor) G D)
        (ap reading_number (sym (checks_are t book queue priors.nodes priors.children (layer_of priors.floor) G D r)) ∙ h)

    kl_fourteen : (rank : ℕ) → reading_number (kl_reading form G D priors.nodes priors.children (layer_of priors.floor) listed rank) ≡ 14
        → goko_node_kl lnGamma digamma (prior rank) (evidence_of rank listed) ≡ None
    unfolding kl_reading
    kl_fourteen rank h = listed_lacks lnGamma digamma G D priors.nodes priors.children (layer_of priors.floor) rank (evidence_of rank listed) (checked_fourteen _ h)

    walk_fourteen : walk_number (walk G D priors.nodes priors.children (layer_of priors.floor) listed) ≡ 14 → list ≡ None
    walk_fourteen h = walk_lacks lnGamma digamma G D priors.nodes priors.children (layer_of priors.floor) listed h

    all_fourteen : (have : ℕ) → reading_number (all_reading form G D priors.nodes priors.children (layer_of priors.floor) listed have) ≡ 14 → list ≡ None
    unfolding all_reading
    all_fourteen have h =
        let w = walk G D priors.nodes priors.children (layer_of priors.floor) listed in
        walk_fourteen (sym (walk_number_lem w) ∙ fitting_fourteen (with_prior priors.nodes priors.children (layer_of priors.floor) listed) have (walk_reading w) (checked_fourteen _ h))

    stats_fourteen : (len : ℕ) → reading_number (stats_reading form G D priors.nodes priors.children (layer_of priors.floor) listed len) ≡ 14 → list ≡ None
    unfolding stats_reading
    stats_fourteen len h =
        let w = walk G D priors.nodes priors.children (layer_of priors.floor) listed in
        walk_fourteen (sym (stats_number len w) ∙ checked_fourteen (stats_reading_of len w) h)

pub goko_gives_the_same : GokoGivesTheSame
goko_gives_the_same t book queue tables priors nb cb lnGamma digamma g d rank o =
    let G = tables.G in
    let D = tables.D in
    let f = form_refusal t book queue in
    let ns = nodes_of t book in
    let have = room_in o in
    let all = all_number (all_reading f G D priors.nodes priors.children (layer_of priors.floor) ns have) in (
      λ h. prob_given t book queue priors nb cb rank o (sym (vector_number (prob_reading f priors.nodes priors.children (layer_of priors.floor) ns rank have)) ∙ h),
      λ h. evidence_told t book queue priors nb cb rank o (sym (vector_number (evidence_reading f ns rank have)) ∙ h),
      kl_told t book queue priors nb cb lnGamma digamma G D g d rank,
      λ h. all_told t book queue priors nb cb lnGamma digamma G D g d o (sym all ∙ h),
      stats_told t book queue priors nb cb lnGamma digamma G D g d,
      kl_fourteen t book queue priors nb cb lnGamma digamma G D g d rank,
      λ h. all_fourteen t book queue priors nb cb lnGamma digamma G D g d have (sym all ∙ h),
      stats_fourteen t book queue priors nb cb lnGamma digamma G D g d (sequence_len t),
    )
