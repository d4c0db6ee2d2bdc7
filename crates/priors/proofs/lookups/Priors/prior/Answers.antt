use mathlib.Core.Path.{◌≡◌, sym, ◌∙◌}
use Rattle.std.specs.Prelude.{Some}
use Rattle.priors.specs.Priors.{records, find_record}
use Rattle.priors.proofs.PriorLaws.{accepted, found_fits}
use Rattle.priors.proofs.lookups.Priors.prior.Goals as goal

pub invariant_of-result : goal.invariant_of-result
invariant_of-result c =
    let p = c.args.self.now in
    let ok = accepted p.nodes.now p.children.now p.layer p.passed in
    let found : find_record p.layer c.args.rank (records p.nodes.now) ≡ Some c.in_ok-node.node = (λ i. find_record p.layer c.args.rank (records (sym c.nodes.ensures i))) ∙ sym c.find.ensures ∙ c.in_ok-node.was in
    let fits = found_fits p.nodes.now p.children.now p.layer ok c.args.rank c.in_ok-node.node found in
    record { first_fits = fits.link_fits; links_rise = ok.records_fit.rising; ascending = fits.ascending; short = fits.short }
