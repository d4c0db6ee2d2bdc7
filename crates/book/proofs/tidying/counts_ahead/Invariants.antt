-- The loop's invariant: the answer is that of the entries from here on.
-- Assumes nothing.
use mathlib.Core.Path.{◌≡◌}
use Rattle.priors.proofs.Ranks.{Bytes}
use Rattle.book.specs.Ahead.{counts_ahead, rows_in}
use Rattle.book.proofs.tidying.counts_ahead.Given as goal

abbrev pub invariant-loop-entry : goal.invariant-loop-entry
invariant-loop-entry l = record {
  bytes : Bytes l.entry-iterator.rest.now;
  size : l.entry-iterator.size ≡ 24;
  so_far : counts_ahead l.node (rows_in l.entries) ≡ counts_ahead l.node (rows_in l.entry-iterator.rest.now);
}
