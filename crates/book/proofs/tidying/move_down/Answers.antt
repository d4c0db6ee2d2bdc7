-- The entry is copied as it is.
-- Assumes nothing.
use mathlib.Core.Path.{◌≡◌}
use Prim.Native.Nat.{◌+◌, ◌-◌, ◌*◌}
use native.Mathlib.Omega.{arith}
use Rattle.book.proofs.TidyLaws.{moved}
use Rattle.book.proofs.tidying.move_down.Goals as goal

pub returns : goal.returns
returns c =
    let size : 24 * c.args.from + 24 - 24 * c.args.from ≡ 24 = omega arith in
    rw (c.copy_within.ensures.after, size) (moved c.args.entries.now c.args.from c.args.to (omega arith) (omega arith))
