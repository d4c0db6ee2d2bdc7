-- `size` meets its contract: the children counted so far and those still to come are all.
use Rattle.std.proofs.Common.{◌≡◌, ◌+◌, ◌*◌, ◌^◌, ◌≤◌, length}
use Rattle.priors.specs.Priors.{count_sum}
use Rattle.divergence.specs.Merging.{children_left}
use Rattle.divergence.proofs.probabilities.Merge.size.Given as goal

abbrev pub invariant-loop-child : goal.invariant-loop-child
invariant-loop-child l = record {
  places_are : l.size.places + length (children_left l.child-iterator) ≡ length (children_left l.self);
  sum_is : l.size.sum + count_sum (children_left l.child-iterator) ≡ count_sum (children_left l.self);
  sum_bound : l.size.sum ≤ 2 ^ 33 * l.size.places;
}
