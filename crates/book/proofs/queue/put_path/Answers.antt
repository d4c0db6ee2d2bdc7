-- Three writes that touch are one place.
-- Assumes nothing.
use Prim.Native.Nat.{◌+◌, ◌-◌}
use native.Mathlib.Omega.{arith}
use borrow.Author.Rules.{rules}
use lib.ListN.{length}
use Rattle.book.proofs.PlaceLaws.{place_written}
use Rattle.book.proofs.queue.put_path.Goals as goal

pub returns : goal.returns
returns c =
    let a = c.args.at in
    let path = c.args.steps.now in
    let n = length path in
    place_written c.args.queue.now path a c.requires.at_in_bounds c.requires.few c.write_u32.new.s c.copy_over.new.to (a + 4 + n - (a + 4)) (a + 516 - (a + 4 + n)) (omega arith) (omega (arith, c.requires.few))
    c.write_u32.ensures c.copy_over.ensures c.fill.new.self (c.fill.ensures.after (search rules))
