-- `size` meets its contract: the children counted so far and those still to come are all.
use Rattle.std.proofs.Common.{◌≡◌, length, ap, arith}
use Rattle.priors.specs.Rows.{Row}
use Rattle.priors.specs.Priors.{count_sum}
use Rattle.divergence.specs.Merging.{children_left}
use Rattle.divergence.proofs.probabilities.Merge.size.Goals as goal

pub loop-child-preserved : goal.loop-child-preserved
unfolding count_sum
loop-child-preserved c =
    let first = (c.in-Some.ensures {u = tt}).steps.0 in
    let small = (c.in-Some.ensures {u = tt}).steps.1 in
    record {
      places_are = omega (arith, ap (λ rs. length {A = Row} rs) first, c.loop-child.invariant.places_are);
      sum_is = omega (arith, ap count_sum first, c.loop-child.invariant.sum_is);
      sum_bound = omega (arith, small, c.loop-child.invariant.sum_bound);
    }

pub returns-clause-value : goal.returns-clause-value
unfolding count_sum
returns-clause-value c =
    let none = c.in-None.ensures.steps.0.0 in
    let places : c.loop-child.size.places ≡ length (children_left c.args.self) = omega (arith, ap (λ rs. length {A = Row} rs) none, c.loop-child.invariant.places_are) in
    let sum : c.loop-child.size.sum ≡ count_sum (children_left c.args.self) = omega (arith, ap count_sum none, c.loop-child.invariant.sum_is) in
    λ j. record { places = places j; sum = sum j }
