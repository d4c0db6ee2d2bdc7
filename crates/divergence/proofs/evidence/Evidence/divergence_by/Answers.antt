-- `divergence_by` meets its contract: the chain of steps is the definition's, and no index is past the total.
use Rattle.std.proofs.Common.{length, ap, arith}
use lib.Ieee.{Float}
use Rattle.priors.specs.Priors.{total}
use Rattle.divergence.specs.Divergence.{divergence}
use Rattle.divergence.proofs.FitLaws.{tables_alike}
use Rattle.divergence.proofs.evidence.Evidence.divergence_by.Goals as goal

pub with_ending-first-requires : goal.with_ending-first-requires
unfolding total
with_ending-first-requires c =
    let g = ap (λ s. length {A = Float} s) c.lent-lent.ensures.g in
    let d = ap (λ s. length {A = Float} s) c.lent-lent.ensures.d in
    let tables = c.args.tables.now in
    let alike = tables_alike tables.g.now tables.d.now tables.passed in
    record {
      posterior_in_bounds = omega (arith, c.ending_count.ensures, g, c.requires.prior_total, c.requires.posterior_total, c.requires.in_bounds);
      prior_in_bounds = omega (arith, d, alike, c.requires.prior_total, c.requires.posterior_total, c.requires.in_bounds);
      total_in_bounds = omega (arith, d, alike, c.requires.posterior_total, c.requires.in_bounds);
    }

pub child_terms-requires : goal.child_terms-requires
unfolding total
child_terms-requires c =
    record { prior_total = omega (arith, c.requires.prior_total); total_in_bounds = omega (arith, c.requires.posterior_total, c.requires.in_bounds) }

pub returns : goal.returns
unfolding divergence
returns c = cc
