-- A key that is found counts one less.
use mathlib.Core.Path.{◌≡◌}
use Prim.Native.Nat.{◌-◌}
use native.Mathlib.Omega.{arith}
use Rattle.std.specs.Prelude.{Ok, None}
use Rattle.entries.specs.Keys.{key_value}
use Rattle.entries.specs.Entries.{rows, find_in}
use Rattle.entries.proofs.BookLaws.{found_changed}
use Rattle.entries.proofs.entries.EntriesMut.fade.Goals as goal

pub returns-in-Ok-clause-rewritten : goal.returns-in-Ok-clause-rewritten
returns-in-Ok-clause-rewritten c =
    let e = c.args.self.now in
    let k = key_value c.args.key in
    let at : find_in (rows e.bytes.now e.used) k ≡ Ok c.in-Ok.i = cc in
    rw (c.set_count.ensures.bytes, c.set_count.ensures.used)
    (found_changed e.bytes.now e.used k c.in-Ok.i e.in_bounds at None (λ d. d - 1) _ (cc) (omega arith))
