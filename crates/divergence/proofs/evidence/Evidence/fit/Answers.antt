-- `fit` meets its contract: each test is the definition's.
use Rattle.std.proofs.Common.{◌≡◌, ◌+◌, ◌<◌, ◌≤◌, sym, ap, ◌∙◌, arith}
use Rattle.std.specs.Prelude.{Ok}
use Rattle.priors.specs.Priors.{total, prior_of_node}
use Rattle.divergence.specs.declared.divergences.Fit.{Fit}
use Rattle.divergence.specs.Listing.{listed_node}
use Rattle.divergence.proofs.FitLaws.{fit_lacks, fit_past, fit_fits}
use Rattle.divergence.proofs.evidence.Evidence.fit.Goals as goal

pub returns-then-lacks_child : goal.returns-then-lacks_child
returns-then-lacks_child c =
    let prior = prior_of_node c.args.prior.now.children.now c.args.prior.now.node in
    sym (fit_lacks c.args.size prior (listed_node c.args.self.now).evidence (sym c.lacks_child.ensures ∙ c.if-lacks_child.true))

pub returns-in-Some : goal.returns-in-Some
returns-in-Some c =
    let prior = prior_of_node c.args.prior.now.children.now c.args.prior.now.node in
    let e = (listed_node c.args.self.now).evidence in
    let sum : c.in-Some.posterior ≡ total prior + total e = omega (arith, c.in-Some.ensures.1, c.total-total.ensures, c.total.ensures) in
    let within : total prior + total e < c.args.size = omega (arith, sum, c.if-posterior-size.true) in
    let is : ◌≡◌ {A = Fit} (record { prior = c.total-total.result; posterior = c.in-Some.posterior }) (record { prior = total prior; posterior = total prior + total e }) = λ j. record { prior = c.total-total.ensures j; posterior = sum j } in
    ap Ok is ∙ sym (fit_fits c.args.size prior e (sym c.lacks_child.ensures ∙ c.if-lacks_child.false) within)

pub returns-in_default : goal.returns-in_default
returns-in_default c =
    let prior = prior_of_node c.args.prior.now.children.now c.args.prior.now.node in
    let e = (listed_node c.args.self.now).evidence in
    let past : c.args.size ≤ total prior + total e = omega (arith, c.in-Some.ensures.1, c.total-total.ensures, c.total.ensures, c.if-posterior-size.false) in
    sym (fit_past c.args.size prior e (sym c.lacks_child.ensures ∙ c.if-lacks_child.false) past)

pub returns-in_default-2 : goal.returns-in_default-2
returns-in_default-2 c =
    let prior = prior_of_node c.args.prior.now.children.now c.args.prior.now.node in
    let e = (listed_node c.args.self.now).evidence in
    let past : c.args.size ≤ total prior + total e = omega (arith, c.in_default.ensures, c.total-total.ensures, c.total.ensures, c.ranges.size) in
    sym (fit_past c.args.size prior e (sym c.lacks_child.ensures ∙ c.if-lacks_child.false) past)
