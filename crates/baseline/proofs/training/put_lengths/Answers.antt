-- The lengths of the knots so far, then what there was.
use Prim.Native.Nat.{◌+◌, ◌*◌}
use native.Mathlib.Omega.{arith}
use Rattle.baseline.proofs.FillLaws.{fill_turn}
use Rattle.baseline.proofs.training.put_lengths.Goals as goal

pub loop-k-preserved : goal.loop-k-preserved
loop-k-preserved c = fill_turn (λ j. j * c.args.rate + 1) c.args.knots.now c.loop-k.knots c.loop-k.k c.loop-k.invariant (omega arith)
