-- Which numbers a reading is refused with: where the form is whole, never 9. Assumes nothing.
use Rattle.std.proofs.Common.{◌≡◌, ℕ, zero, suc, Bool, true, false, cond, ltb, List, [], ◌∷◌, length, refl, arith}
use Rattle.std.specs.Prelude.{Option, None, Some}
use lib.Ieee.{Float}
use Rattle.priors.specs.Address.{rank_of}
use Rattle.priors.specs.Tables.{tables_refusal}
use Rattle.priors.specs.Priors.{layer_of, Counts, prior_of, priors_refusal}
use Rattle.priors.proofs.RuleLaws.{not_nine, tables_keep, priors_keep}
use Rattle.book.specs.Path.{Steps}
use Rattle.book.specs.Recount.{sequence_length}
use Rattle.std.specs.Prelude.{Result, Ok, Err}
use Rattle.priors.specs.declared.refusals.NodeReason.{NodeReason}
use Rattle.priors.specs.declared.refusals.NodeReason.TheVariants.{MissingChild, PastTable}
use Rattle.divergence.specs.Nodes.{Node, evidence_of}
use Rattle.divergence.specs.RecountNodes.{recount_nodes}
use Rattle.divergence.specs.Probability as Vectors
use Rattle.divergence.specs.Divergence.{node_divergence}
use Rattle.divergence.specs.Statistics.{Place, Walk, stopped, walked, placed, skipping, visited, walk}
use Rattle.divergence.specs.Readings.{Reading, refused, nothing, answered, mapped, unless, fitting, vector_reading, prob_reading, evidence_reading, divergence_reading, of_listed, kl_reading, with_prior, walk_reading, all_reading, stats_reading_of, stats_reading}
use Rattle.divergence.specs.Asked.{room_in}
use Rattle.divergence.specs.Claims.{ReadingCall, prob_vector, evidence_prob_vector, posterior_kl_divergence, all_node_kl, kl_div_stats, vector, kl, all_kl, stats, reading, recount_seen}
use Rattle.divergence.specs.Corollaries.{reading_number, answer_number, other_form}

abbrev Not9 : ℕ → Type 0
Not9 n = n ≡ 9 → ⊥

is_not : (n : ℕ) → not_nine n ≡ true → Not9 n
is_not n h e = let z : ◌≡◌ {A = ℕ} 0 1 = cc in omega arith

tables_not : (G D : List Float) → Not9 (tables_refusal G D)
tables_not G D = is_not (tables_refusal G D) (tables_keep not_nine G D refl refl)

priors_not : (nodes children : List ℕ) (layer : ℕ) → Not9 (priors_refusal nodes children layer)
priors_not nodes children layer = is_not (priors_refusal nodes children layer) (priors_keep not_nine nodes children layer refl refl)

-- ---- the parts of a reading

-- a reading that is not refused with 9
record Other {X : Type 0} (r : Reading X) : Type 0 where
  is_not_nine : Not9 (reading_number r)

unless_other : {X : Type 0} {n : ℕ} {r : Reading X} → Not9 n → Other r → Other (unless n r)
unless_other {n = zero} h i = i
unless_other {n = suc n} h i = record { is_not_nine = h }

fitting_other : {X : Type 0} (places have : ℕ) {r : Reading X} → Other r → Other (fitting places have r)
fitting_other places have {r} h = go (ltb have places)
  where
    go : (b : Bool) → Other (cond b (refused 13 None) r)
    go true = record { is_not_nine = λ e. omega arith }
    go false = h

answered_other : {X : Type 0} (x : X) → Other (answered x)
answered_other x = record { is_not_nine = λ e. omega arith }

nothing_other : {X : Type 0} → Other {X = X} nothing
nothing_other = record { is_not_nine = λ e. omega arith }

vector_other : (have : ℕ) (o : Option Counts) → Other (vector_reading have o)
vector_other have None = nothing_other
vector_other have (Some c) = fitting_other (length c.children) have (answered_other c)

divergence_other : (rank : ℕ) (d : (Result (Option Float) NodeReason)) → Other (divergence_reading rank d)
divergence_other rank (Ok (Some x)) = answered_other x
divergence_other rank (Ok None) = nothing_other
divergence_other rank (Err MissingChild) = record { is_not_nine = λ e. omega arith }
divergence_other rank (Err PastTable) = record { is_not_nine = λ e. omega arith }

listed_other : (G D : List Float) (nodes children : List ℕ) (layer rank : ℕ) (o : Option Counts) → Other (of_listed G D nodes children layer rank o)
listed_other G D nodes children layer rank None = nothing_other
listed_other G D nodes children layer rank (Some c) = divergence_other rank (node_divergence G D (prior_of nodes children layer rank) c)

-- a walk ends by 14 or 15
abbrev pub walk_number : Walk → ℕ
walk_number (stopped n node) = n
walk_number (walked places skipped) = 0

-- which a place or a skipped node before it does not change
pub placed_number : (p : Place) (w : Walk) → walk_number (placed p w) ≡ walk_number w
placed_number p (stopped n node) = refl
placed_number p (walked ps k) = refl

pub skipping_number : (w : Walk) → walk_number (skipping w) ≡ walk_number w
skipping_number (stopped n node) = refl
skipping_number (walked ps k) = refl

-- and which is that of the readings made of it
pub walk_number_lem : (w : Walk) → reading_number (walk_reading w) ≡ walk_number w
walk_number_lem (stopped n node) = refl
walk_number_lem (walked ps k) = refl

pub stats_number : (len : ℕ) (w : Walk) → reading_number (stats_reading_of len w) ≡ walk_number w
stats_number len (stopped n node) = refl
stats_number len (walked ps k) = refl

visited_not : (node : ℕ) (d : (Result (Option Float) NodeReason)) (rest : Walk) → Not9 (walk_number rest) → Not9 (walk_number (visited node d rest))
visited_not node (Ok (Some x)) rest h = rw (placed_number (record { address = node; value = x }) rest) h
visited_not node (Ok None) rest h = rw (skipping_number rest) h
visited_not node (Err MissingChild) rest h = λ e. omega arith
visited_not node (Err PastTable) rest h = λ e. omega arith

walk_not : (G D : List Float) (nodes children : List ℕ) (layer : ℕ) (ns : List Node) → Not9 (walk_number (walk G D nodes children layer ns))
unfolding walk
walk_not G D nodes children layer [] = λ e. omega arith
walk_not G D nodes children layer (n ∷ ns) =
    visited_not n.address (node_divergence G D (prior_of nodes children layer n.address) n.evidence) (walk G D nodes children layer ns) (walk_not G D nodes children layer ns)

walked_other : (w : Walk) → Not9 (walk_number w) → Other (walk_reading w)
walked_other w h = record { is_not_nine = rw (walk_number_lem w) h }

stats_other : (len : ℕ) (w : Walk) → Not9 (walk_number w) → Other (stats_reading_of len w)
stats_other len w h = record { is_not_nine = rw (stats_number len w) h }

-- ---- the readings, of a tracker in form

-- what stands in the result has the same number
mapped_other : {X Y : Type 0} (part : X → Y) {r : Reading X} → Other r → Other (mapped part r)
mapped_other part {r = refused n at} h = record { is_not_nine = h.is_not_nine }
mapped_other part {r = nothing} h = nothing_other
mapped_other part {r = answered x} h = answered_other (part x)

prob_other : (nodes children : List ℕ) (layer : ℕ) (ns : List Node) (rank have : ℕ) → Other (prob_reading 0 nodes children layer ns rank have)
unfolding prob_reading
prob_other nodes children layer ns rank have = unless_other (priors_not nodes children layer) (vector_other have (Vectors.prob_vector (prior_of nodes children layer rank) (evidence_of rank ns)))

evidence_other : (ns : List Node) (rank have : ℕ) → Other (evidence_reading 0 ns rank have)
unfolding evidence_reading
evidence_other ns rank have = vector_other have (Vectors.evidence_prob_vector (evidence_of rank ns))

kl_other : (G D : List Float) (nodes children : List ℕ) (layer : ℕ) (ns : List Node) (rank : ℕ) → Other (kl_reading 0 G D nodes children layer ns rank)
unfolding kl_reading
kl_other G D nodes children layer ns rank = unless_other (tables_not G D) (unless_other (priors_not nodes children layer) (listed_other G D nodes children layer rank (evidence_of rank ns)))

all_other : (G D : List Float) (nodes children : List ℕ) (layer : ℕ) (ns : List Node) (have : ℕ) → Other (all_reading 0 G D nodes children layer ns have)
unfolding all_reading
all_other G D nodes children layer ns have =
    unless_other (tables_not G D) (unless_other (priors_not nodes children layer) (fitting_other (with_prior nodes children layer ns) have (walked_other (walk G D nodes children layer ns) (walk_not G D nodes children layer ns))))

div_stats_other : (G D : List Float) (nodes children : List ℕ) (layer : ℕ) (ns : List Node) (len : ℕ) → Other (stats_reading 0 G D nodes children layer ns len)
unfolding stats_reading
div_stats_other G D nodes children layer ns len =
    unless_other (tables_not G D) (unless_other (priors_not nodes children layer) (stats_other len (walk G D nodes children layer ns) (walk_not G D nodes children layer ns)))

-- no reading is lent another tracker yet
pub reading_not_nine : (W : ℕ) (H L : List Steps) (c : ReadingCall) → answer_number (reading (recount_seen W H L) c) ≡ 9 → other_form c ≡ 9
unfolding reading
reading_not_nine W H L (prob_vector p scale point o) e =
    absurd ((mapped_other vector (mapped_other _ (prob_other p.nodes p.children (layer_of p.floor) (recount_nodes W H L) (rank_of scale point) (room_in o)))).is_not_nine e)
reading_not_nine W H L (evidence_prob_vector scale point o) e = absurd ((mapped_other vector (mapped_other _ (evidence_other (recount_nodes W H L) (rank_of scale point) (room_in o)))).is_not_nine e)
reading_not_nine W H L (posterior_kl_divergence t p scale point) e = absurd ((mapped_other kl (kl_other t.G t.D p.nodes p.children (layer_of p.floor) (recount_nodes W H L) (rank_of scale point))).is_not_nine e)
reading_not_nine W H L (all_node_kl t p o) e = absurd ((mapped_other all_kl (mapped_other _ (all_other t.G t.D p.nodes p.children (layer_of p.floor) (recount_nodes W H L) (room_in o)))).is_not_nine e)
reading_not_nine W H L (kl_div_stats t p) e = absurd ((mapped_other stats (div_stats_other t.G t.D p.nodes p.children (layer_of p.floor) (recount_nodes W H L) (sequence_length W H))).is_not_nine e)
