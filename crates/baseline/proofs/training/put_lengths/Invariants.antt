-- The lengths of the knots so far, then what there was.
use mathlib.Core.Path.{◌≡◌}
use Prim.Native.Nat.{◌+◌, ◌*◌}
use mathlib.Core.List.{◌++◌}
use lib.ListN.{drop}
use Rattle.priors.specs.Below.{list_of}
use Rattle.baseline.proofs.training.put_lengths.Given as goal

abbrev pub invariant-loop-k : goal.invariant-loop-k
invariant-loop-k l = l.knots ≡ list_of l.k (λ j. j * l.rate + 1) ++ drop l.k l.initial.knots
