-- `all_node_kl` and `kl_div_stats`: the divergences of the listed nodes, ascending, and what is summed of those strictly above 1.0e-10. Assumes nothing.
use Rattle.std.specs.Prelude.{ℕ, suc, ◌+◌, cond, List, [], ◌∷◌, Float, Option, None, Some, Result, Ok, Err}
use Rattle.std.specs.Float.Ieee.{lt}
use Rattle.priors.specs.Priors.{prior_of}
use Rattle.priors.specs.declared.refusals.NodeReason.{NodeReason}
use Rattle.priors.specs.declared.refusals.NodeReason.TheVariants.{MissingChild, PastTable}
use Rattle.divergence.specs.declared.divergences.Measure.{Measure}
use Rattle.divergence.specs.declared.statistics.KLDivergenceStats.{KLDivergenceStats}
use Rattle.divergence.specs.Numbers.{fadd, fmul, zero64, tiny64, min64, max64}
use Rattle.divergence.specs.Nodes.{Node}
use Rattle.divergence.specs.Divergence.{node_divergence}

-- a place of the answer: a node and its divergence
pub record Place : Type 0 where
  pub address : ℕ
  pub value : Float

-- a walk over nodes ends at the first refusal, 14 or 15 with its node, or has a place for each node with a prior and the number of those without
pub data Walk : Type 0 where
  stopped : (number node : ℕ) → Walk
  walked : (places : List Place) (skipped : ℕ) → Walk

-- one node, and what is found of the nodes after it
abbrev pub placed : Place → Walk → Walk
placed p (stopped n node) = stopped n node
placed p (walked ps k) = walked (p ∷ ps) k

abbrev pub skipping : Walk → Walk
skipping (stopped n node) = stopped n node
skipping (walked ps k) = walked ps (suc k)

abbrev pub visited : ℕ → Result (Option Float) NodeReason → Walk → Walk
visited node (Ok (Some x)) rest = placed (record { address = node; value = x }) rest
visited node (Ok None) rest = skipping rest
visited node (Err MissingChild) rest = stopped 14 node
visited node (Err PastTable) rest = stopped 15 node

unfoldable pub walk : List Float → List Float → List ℕ → List ℕ → ℕ → List Node → Walk
walk G D nodes children layer [] = walked [] 0
walk G D nodes children layer (n ∷ ns) =
    visited n.address (node_divergence G D (prior_of nodes children layer n.address) n.evidence) (walk G D nodes children layer ns)

-- by tables and priors that passed
abbrev pub walk_by : Measure → List Node → Walk
walk_by m ns = walk m.tables.g.now m.tables.d.now m.priors.nodes.now m.priors.children.now m.priors.layer ns

-- ---- the statistics

-- with no divergence above 1.0e-10
abbrev pub no_stats : ℕ → KLDivergenceStats
no_stats length = record { max = min64; min = max64; nz_count = 0; moment1_nz = zero64; moment2_nz = zero64; sequence_len = length }

-- one more divergence above 1.0e-10
unfoldable pub counted : KLDivergenceStats → Float → KLDivergenceStats
counted s x = record {
  max = cond (lt s.max x) x s.max;
  min = cond (lt x s.min) x s.min;
  nz_count = s.nz_count + 1;
  moment1_nz = fadd s.moment1_nz x;
  moment2_nz = fadd s.moment2_nz (fmul x x);
  sequence_len = s.sequence_len;
}

unfoldable pub noted : KLDivergenceStats → Float → KLDivergenceStats
noted s x = cond (lt tiny64 x) (counted s x) s

-- over the places, in order
unfoldable pub stats_over : KLDivergenceStats → List Place → KLDivergenceStats
stats_over s [] = s
stats_over s (p ∷ ps) = stats_over (noted s p.value) ps
