-- The code's listed nodes: what the evidence of one stands for, and a walk over all. Assumes nothing.
use Rattle.std.specs.Prelude.{List, Option, option_map}
use Rattle.priors.specs.Priors.{Counts}
use Rattle.divergence.specs.declared.evidence.Evidence.{Evidence}
use Rattle.divergence.specs.declared.evidence.Listed.{Listed}
use Rattle.divergence.specs.declared.nodes.Nodes.{Nodes}
use Rattle.divergence.specs.Nodes.{Node}
use Rattle.divergence.specs.Parts.{node_at, evidence_at, nodes_from}

-- the node
abbrev pub listed_node : Evidence → Node
listed_node e = record { address = node_at e.entries.bytes.now e.ending; evidence = evidence_at e.entries.bytes.now e.ending e.entries.used }

-- what a look-up found
abbrev pub evidence_in : Option Listed → Option Counts
evidence_in o = option_map (λ (l : Listed). (listed_node l.evidence).evidence) o

-- the nodes that a walk has still to come
abbrev pub nodes_left : Nodes → List Node
nodes_left w = nodes_from w.entries.bytes.now w.place w.entries.used
