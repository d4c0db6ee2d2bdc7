-- `prior` meets its contract: an unlisted address merges no entries.
use Rattle.std.proofs.Common.{[], sym, ap, arith}
use Rattle.priors.specs.Priors.{Counts}
use Rattle.entries.specs.Entries.{rows}
use Rattle.divergence.proofs.MergeLaws.{merged_few}
use Rattle.divergence.proofs.VectorLaws.{posterior_unlisted}
use Rattle.divergence.proofs.probabilities.Merge.prior.Goals as goal

pub invariant_of-result : goal.invariant_of-result
unfolding rows
invariant_of-result c =
    let p = c.args.prior.now in
    record { links_rise = p.links_rise; link_fits = p.first_fits; place_fits = omega arith; children_ascend = tt }

pub returns-clause-left : goal.returns-clause-left
returns-clause-left c = sym (ap (λ (n : Counts). n.children) (posterior_unlisted c.args.prior.now.children.now [] c.args.prior.now.node))

pub returns-clause-few : goal.returns-clause-few
returns-clause-few c =
    let p = c.args.prior.now in
    omega (arith, merged_few p.children.now p.node.link [] 0 0, p.short)
