-- `evidence` meets its contract: with no chain the merge has the evidence alone.
use Rattle.std.proofs.Common.{◌+◌, [], sym, ap, arith}
use Rattle.priors.specs.Priors.{Counts}
use Rattle.divergence.proofs.MergeLaws.{merged_few}
use Rattle.divergence.proofs.VectorLaws.{no_links, no_chain_length, evidence_merged}
use Rattle.divergence.proofs.probabilities.Merge.evidence.Goals as goal

pub invariant_of-result : goal.invariant_of-result
invariant_of-result c =
    let e = c.args.listed.evidence in
    record { links_rise = no_links; link_fits = omega arith; place_fits = omega (arith, e.ending_first); children_ascend = c.args.listed.ascending }

pub returns-clause-left : goal.returns-clause-left
returns-clause-left c =
    let e = c.args.listed.evidence in
    sym (ap (λ (n : Counts). n.children) (evidence_merged e.entries.bytes.now e.ending e.entries.used c.args.listed.ascending))

pub returns-clause-few : goal.returns-clause-few
returns-clause-few c =
    let e = c.args.listed.evidence in
    omega (arith, merged_few [] 0 e.entries.bytes.now (e.ending + 1) e.entries.used, no_chain_length)
