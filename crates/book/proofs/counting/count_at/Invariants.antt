-- The loop's invariant: what is left to count in the rows as they are is all that is to be counted in the rows as they were.
-- Assumes nothing.
use mathlib.Core.Path.{◌≡◌}
use Rattle.book.specs.Path.{path_of, counted_keys}
use Rattle.book.proofs.CountingLaws.{Counting}
use Rattle.book.proofs.counting.count_at.Given as goal

abbrev pub invariant-loop-place : goal.invariant-loop-place
invariant-loop-place l = record {
  same_reference : l.entries.bytes.ghost_name ≡ l.initial.entries.bytes.ghost_name;
  used : l.entries.used ≡ l.initial.entries.used;
  counting : Counting l.initial.entries.bytes.now l.initial.entries.used (counted_keys (path_of l.path.steps.now)) l.entries.bytes.now l.place-index;
}
