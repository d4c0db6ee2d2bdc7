-- `all_node_kl`, node by node: whether a walk is stopped, and what it fills and skips. Assumes nothing.
use Rattle.std.specs.Prelude.{ℕ, cond, List, [], ◌==◌, Result, Ok, Err}
use Rattle.priors.specs.Address.{address_of}
use Rattle.priors.specs.declared.refusals.Refusal.{Refusal}
use Rattle.priors.specs.declared.refusals.Refusal.TheVariants.{AtNode}
use Rattle.priors.specs.declared.refusals.NodeReason.TheVariants.{MissingChild, PastTable}
use Rattle.divergence.specs.Statistics.{Place, Walk, stopped, walked}

-- whether a walk is stopped: 14 or 15
abbrev pub stop_of : Walk → Result (Unit {0}) Refusal
stop_of (stopped n node) = Err (cond (n == 14) (AtNode MissingChild (address_of node)) (AtNode PastTable (address_of node)))
stop_of (walked ps k) = Ok tt

-- what a walk fills and skips
abbrev pub places_of : Walk → List Place
places_of (stopped n node) = []
places_of (walked ps k) = ps

abbrev pub skipped_of : Walk → ℕ
skipped_of (stopped n node) = 0
skipped_of (walked ps k) = k
