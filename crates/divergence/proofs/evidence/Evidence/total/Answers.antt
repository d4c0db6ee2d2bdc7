-- `total` meets its contract: the counts of a node's entries are its ending's and its children's.
use Rattle.std.proofs.Common.{arith}
use Rattle.divergence.proofs.NodeLaws.{evidence_total_lem}
use Rattle.divergence.proofs.evidence.Evidence.total.Goals as goal

pub returns : goal.returns
returns c =
    let self = c.args.self.now in
    omega (arith, c.count_total.ensures.capped, evidence_total_lem self.entries.bytes.now self.ending self.entries.used self.ending_first)
