-- The loop's invariant: what is left to take from the rows as they are is all that is to be taken from the rows as they were.
-- Assumes nothing.
use mathlib.Core.Path.{◌≡◌}
use Rattle.book.specs.Path.{path_of, counted_keys}
use Rattle.book.proofs.PassLaws.{Fading}
use Rattle.book.proofs.paths.take_away.Given as goal

abbrev pub invariant-loop-i : goal.invariant-loop-i
invariant-loop-i l = record {
  same_reference : l.entries.bytes.ghost_name ≡ l.initial.entries.bytes.ghost_name;
  used : l.entries.used ≡ l.initial.entries.used;
  fading : Fading l.initial.entries.bytes.now l.initial.entries.used (counted_keys (path_of l.steps.bytes.now)) l.entries.bytes.now l.i;
}
