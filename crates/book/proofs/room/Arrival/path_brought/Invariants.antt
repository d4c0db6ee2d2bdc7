-- The loop's invariant: with what came in so far there are as many entries as touching the keys of the pairs looked at would leave.
-- Assumes nothing.
use mathlib.Core.Path.{◌≡◌}
use Prim.Native.Nat.{◌+◌, ◌*◌, ◌≤◌}
use lib.ListN.{length, take}
use Rattle.book.specs.Path.{path_of, listed_keys}
use Rattle.entries.specs.Entries.{rows}
use Rattle.book.specs.Changes.{touch_all}
use Rattle.book.proofs.room.Arrival.path_brought.Given as goal

abbrev pub invariant-loop-i : goal.invariant-loop-i
invariant-loop-i l = record {
  few : l.all ≤ 2 * l.i;
  so_far : l.self.entries.used + l.all ≡ length (touch_all (take (2 * l.i) (listed_keys (path_of l.self.path.steps.now))) (rows l.self.entries.bytes.now l.self.entries.used));
}
