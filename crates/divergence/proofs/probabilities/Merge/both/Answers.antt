-- `both` meets its contract: the entries of the evidence are merged with the prior's chain.
use Rattle.std.proofs.Common.{◌+◌, sym, ap, arith}
use Rattle.priors.specs.Priors.{Counts}
use Rattle.divergence.proofs.MergeLaws.{merged_few}
use Rattle.divergence.proofs.VectorLaws.{posterior_listed}
use Rattle.divergence.proofs.probabilities.Merge.both.Goals as goal

pub returns-clause-left : goal.returns-clause-left
returns-clause-left c =
    let p = c.args.prior.now in
    let e = c.args.listed.evidence in
    sym (ap (λ (n : Counts). n.children) (posterior_listed p.children.now e.entries.bytes.now p.node e.ending e.entries.used))

pub returns-clause-few : goal.returns-clause-few
returns-clause-few c =
    let p = c.args.prior.now in
    let e = c.args.listed.evidence in
    omega (arith, merged_few p.children.now p.node.link e.entries.bytes.now (e.ending + 1) e.entries.used, p.short)
