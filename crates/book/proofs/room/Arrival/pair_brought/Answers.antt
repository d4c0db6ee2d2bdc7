-- Where the child brings none, its node's ending brings none.
-- Assumes nothing.
use mathlib.Core.Path.{◌≡◌, sym, ◌∙◌}
use Prim.Native.Nat.{◌+◌, ◌*◌}
use native.Mathlib.Omega.{arith}
use Rattle.book.specs.Path.{path_of, listed_keys}
use Rattle.entries.specs.Entries.{rows}
use Rattle.book.specs.Room.{brings}
use Rattle.book.proofs.RoomLaws.{pair_none}
use Rattle.book.proofs.room.Arrival.pair_brought.Goals as goal

pub returns-then-entries_brought-eq0 : goal.returns-then-entries_brought-eq0
returns-then-entries_brought-eq0 c =
    let rs = rows c.args.self.now.entries.bytes.now c.args.self.now.entries.used in
    let path = c.args.self.now.path.steps.now in
    let none : brings rs (listed_keys (path_of path)) (2 * c.args.i + 1) ≡ 0 = sym c.entries_brought.ensures ∙ c.if-entries_brought-eq0.true in
    omega (arith, none, pair_none (path_of path) c.args.self.now.path.ranks rs c.args.self.now.endings_listed c.args.i c.requires none)
