-- A turn of the loop moves one byte more.
use native.Mathlib.Omega.{arith}
use Rattle.entries.proofs.GapLaws.{shift_turn}
use Rattle.entries.proofs.entries.open_gap.Goals as goal

pub loop-i-preserved : goal.loop-i-preserved
loop-i-preserved c =
    (omega arith, shift_turn c.args.s.now c.loop-i.s c.loop-i.i c.args.to (omega arith) (omega arith) (omega arith) c.loop-i.invariant.1)
