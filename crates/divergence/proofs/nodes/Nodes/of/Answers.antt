-- `of` meets its contract: the first ending stands there, or there is no node.
use Rattle.std.proofs.Common.{sym}
use Rattle.divergence.proofs.WalkLaws.{first}
use Rattle.divergence.proofs.nodes.Nodes.of.Goals as goal

pub invariant_of-result : goal.invariant_of-result
invariant_of-result c =
    let e = c.args.entries in
    let at = first e.bytes.now c.children_end.result e.used c.children_end.ensures in
    record { few = c.requires; within = at.within; at_ending = at.ends }

pub returns : goal.returns
returns c = let e = c.args.entries in sym (first e.bytes.now c.children_end.result e.used c.children_end.ensures).nodes_are
