-- The loop's invariant: the fold so far, with none refused, and what the next add leans on.
-- Assumes nothing.
use mathlib.Core.Path.{◌≡◌}
use Prim.Native.Nat.{◌+◌}
use Rattle.book.specs.Batches.{batched, next_number, with_path}
use Rattle.book.specs.Adding.{Going}
use Rattle.book.proofs.GoingLaws.{machine}
use Rattle.book.proofs.BatchLaws.{so_far}
use Rattle.book.proofs.trackers.Tracker.add_paths.Given as goal

abbrev pub invariant-loop-k : goal.invariant-loop-k
invariant-loop-k l = record {
  accepted : l.self.accepted ≡ l.initial.self.accepted + l.k-counter;
  going : Going l.self l.book l.queue;
  fold : batched next_number with_path (machine l.initial.self l.initial.book l.initial.queue) l.places l.k-counter ≡ so_far l.k-counter (machine l.self l.book l.queue);
}
