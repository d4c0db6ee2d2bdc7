-- `lacks_child` meets its contract: what holds of all children is what holds of those still to come.
use Rattle.std.proofs.Common.{sym, ap, ◌∙◌}
use Rattle.std.specs.Prelude.{is_some}
use Rattle.priors.specs.Priors.{children_of}
use Rattle.divergence.proofs.SumLaws.{lacks_here, lacks_on, lacks_none}
use Rattle.divergence.proofs.evidence.Evidence.lacks_child.Goals as goal

pub returns-then-is_none : goal.returns-then-is_none
returns-then-is_none c =
    let child = c.child_at.result in
    let prior = children_of c.args.prior.now.children.now c.args.prior.now.node.link in
    sym (c.loop-i.invariant ∙ lacks_here c.args.self.entries.bytes.now c.loop-i.i c.args.self.entries.used c.loop-i-test.true child.rank child.count c.child_at.ensures prior (ap is_some (sym c.child.ensures.count_value) ∙ c.if-is_none.ensures {u = tt}))

pub loop-i-preserved : goal.loop-i-preserved
loop-i-preserved c =
    let child = c.child_at.result in
    let prior = children_of c.args.prior.now.children.now c.args.prior.now.node.link in
    c.loop-i.invariant ∙ lacks_on c.args.self.entries.bytes.now c.loop-i.i c.args.self.entries.used c.loop-i-test.true child.rank child.count c.child_at.ensures prior (ap is_some (sym c.child.ensures.count_value) ∙ c.if-is_none.ensures {u = tt})

pub returns : goal.returns
returns c =
    sym (c.loop-i.invariant ∙ lacks_none c.args.self.entries.bytes.now c.loop-i.i c.args.self.entries.used c.loop-i-test.false (children_of c.args.prior.now.children.now c.args.prior.now.node.link))
