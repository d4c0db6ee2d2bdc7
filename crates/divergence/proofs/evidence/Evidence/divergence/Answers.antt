-- `divergence` meets its contract: it goes by the tests, and a node that fits has what the chain of steps asks for.
use Rattle.std.proofs.Common.{◌≡◌, sym, ap, ◌∙◌, length}
use Rattle.std.specs.Prelude.{Some, Result, Ok, Err}
use Rattle.std.proofs.lemmas.Result.{err_from_is_err_and}
use Rattle.priors.specs.Priors.{prior_of, prior_of_node}
use Rattle.priors.specs.declared.refusals.NodeReason.{NodeReason}
use Rattle.divergence.specs.declared.divergences.Fit.{Fit}
use Rattle.divergence.specs.Listing.{listed_node}
use Rattle.divergence.specs.Divergence.{node_divergence}
use Rattle.divergence.proofs.FitLaws.{told_none, told_by, fit_divergence, fitting}
use Rattle.divergence.proofs.evidence.Evidence.divergence.Goals.{After-fit}
use Rattle.divergence.proofs.evidence.Evidence.divergence.Goals as goal

-- the divergence by what the tests gave
tested : (c : After-fit) (r : Result Fit NodeReason) → c.fit.result ≡ r
    → node_divergence c.args.by.now.tables.g.now c.args.by.now.tables.d.now (prior_of c.args.by.now.priors.nodes.now c.args.by.now.priors.children.now c.args.by.now.priors.layer (listed_node c.args.self.now).address) (listed_node c.args.self.now).evidence
    ≡ fit_divergence c.args.by.now.tables.g.now c.args.by.now.tables.d.now (prior_of_node c.in-Some.prior.children.now c.in-Some.prior.node) (listed_node c.args.self.now).evidence r
tested c r is =
    let by = c.args.by.now in
    told_by by.tables.g.now by.tables.d.now by.priors (listed_node c.args.self.now) c.rank.result c.rank.ensures c.in-Some.prior c.in-Some.ensures.found c.in-Some.ensures.lent r (sym is ∙ c.fit.ensures)

pub divergence_by-requires : goal.divergence_by-requires
divergence_by-requires c =
    let prior = c.in-Some.prior in
    let has = fitting (length c.args.by.now.tables.g.now) (prior_of_node prior.children.now prior.node) (listed_node c.args.self.now).evidence c.in_ok-fit-in-Some.fit (sym c.fit.ensures ∙ c.in_ok-fit-in-Some.was {u = tt}) in
    record { prior_total = has.prior_is; posterior_total = has.posterior_is; in_bounds = has.within }

pub returns-in_err-fit-in-Some : goal.returns-in_err-fit-in-Some
returns-in_err-fit-in-Some c =
    let out = err_from_is_err_and c.from_residual.result c.from_residual.ensures.1 in
    rw (out.1, out.2) (sym (tested (goal.at.returns-in_err-fit-in-Some c).After-fit (Err c.in_err-fit-in-Some.field-0.0) (c.in_err-fit-in-Some.was {u = tt})))

pub returns-in-None : goal.returns-in-None
returns-in-None c =
    let by = c.args.by.now in
    sym (told_none by.tables.g.now by.tables.d.now by.priors (listed_node c.args.self.now) c.rank.result c.rank.ensures c.in-None.ensures.found)

pub returns-in_ok-fit-in-Some : goal.returns-in_ok-fit-in-Some
returns-in_ok-fit-in-Some c =
    ap (λ x. Ok (Some x)) c.divergence_by.ensures ∙ sym (tested (goal.at.returns-in_ok-fit-in-Some c).After-fit (Ok c.in_ok-fit-in-Some.fit) (c.in_ok-fit-in-Some.was {u = tt}))
