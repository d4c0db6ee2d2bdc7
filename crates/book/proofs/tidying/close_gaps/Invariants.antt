-- The loop's invariant: what is kept so far and what is left to keep are all that is kept.
-- Assumes nothing.
use Prim.Native.Nat.{◌/◌}
use lib.ListN.{length}
use Rattle.book.proofs.TidyLaws.{Closing}
use Rattle.book.proofs.tidying.close_gaps.Given as goal

abbrev pub invariant-loop-i : goal.invariant-loop-i
invariant-loop-i l = Closing l.initial.entries (length l.initial.entries / 24) l.entries l.to l.i
