-- `lacks_child` meets its contract: what holds of all children is what holds of those still to come.
use Rattle.std.proofs.Common.{◌≡◌, ◌+◌, map}
use Rattle.priors.specs.Priors.{children_of}
use Rattle.divergence.specs.Nodes.{child_row}
use Rattle.divergence.specs.Parts.{part}
use Rattle.divergence.specs.Divergence.{lacks_child}
use Rattle.divergence.proofs.evidence.Evidence.lacks_child.Given as goal

abbrev pub invariant-loop-i : goal.invariant-loop-i
invariant-loop-i l =
    lacks_child (children_of l.prior.children.now l.prior.node.link) (map child_row (part l.self.entries.bytes.now (l.self.ending + 1) l.self.entries.used))
    ≡ lacks_child (children_of l.prior.children.now l.prior.node.link) (map child_row (part l.self.entries.bytes.now l.i l.self.entries.used))
