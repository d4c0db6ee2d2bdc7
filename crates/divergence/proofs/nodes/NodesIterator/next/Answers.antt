-- `next` meets its contract: the node whose ending stands at the place, and the walk goes on where its children end.
use Rattle.std.proofs.Common.{length, ap, arith}
use Rattle.divergence.specs.Nodes.{Node}
use Rattle.divergence.proofs.WalkLaws.{Next, next, nodes_none}
use Rattle.divergence.proofs.nodes.NodesIterator.next.Goals.{After-at-node}
use Rattle.divergence.proofs.nodes.NodesIterator.next.Goals as goal

to : (c : After-at-node) → Next c.args.self.now.entries.bytes.now c.args.self.now.place c.at-node.result.entries.used c.args.self.now.entries.used
to c =
    let self = c.args.self.now in
    next self.entries.bytes.now self.place c.at-node.result.entries.used self.entries.used (omega (arith, self.within, c.if-self.false)) self.at_ending c.at-node.ensures.end

pub returns-then-self-clause-steps : goal.returns-then-self-clause-steps
returns-then-self-clause-steps c =
    let none = nodes_none c.args.self.now.entries.bytes.now c.args.self.now.place c.args.self.now.entries.used (omega arith) in
    (none, none)

pub invariant_of-self : goal.invariant_of-self
invariant_of-self c =
    let at = to (goal.at.invariant_of-self c).After-at-node in
    record { few = c.args.self.now.few; within = at.within; at_ending = at.ends }

pub returns-clause-steps : goal.returns-clause-steps
returns-clause-steps c = rw (c.at-node.ensures.bytes, c.at-node.ensures.ending) (to (goal.at.returns-clause-steps c).After-at-node).nodes_are

pub returns-clause-goes : goal.returns-clause-goes
returns-clause-goes c =
    let fewer = ap (λ ns. length {A = Node} ns) (to (goal.at.returns-clause-goes c).After-at-node).nodes_are in
    record { on = λ f. (tt, tt, omega (arith, fewer)); keeps = tt; rests = λ f. tt }
