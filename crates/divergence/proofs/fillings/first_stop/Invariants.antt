-- `first_stop` meets its contract: the nodes still to come are stopped where all are.
use Rattle.std.proofs.Common.{◌≡◌, List, length}
use lib.Ieee.{Float}
use Rattle.divergence.specs.Listing.{nodes_left}
use Rattle.divergence.specs.Statistics.{walk}
use Rattle.divergence.specs.Fillings.{stop_of}
use Rattle.divergence.proofs.fillings.first_stop.Given as goal

abbrev pub invariant-loop-node : goal.invariant-loop-node
invariant-loop-node l =
    (G D : List Float) → length G ≡ l.size
    → stop_of (walk G D l.priors.nodes.now l.priors.children.now l.priors.layer (nodes_left l.node-iterator)) ≡ stop_of (walk G D l.priors.nodes.now l.priors.children.now l.priors.layer (nodes_left l.nodes))
