-- The loop's invariant: what is left to do to the rows as they are is all that is to be done to the rows as they were.
-- Assumes nothing.
use mathlib.Core.Path.{◌≡◌}
use Rattle.book.specs.Path.{path_of}
use Rattle.book.proofs.PassLaws.{Passing}
use Rattle.book.proofs.paths.add_steps.Given as goal

abbrev pub invariant-loop-i : goal.invariant-loop-i
invariant-loop-i l = record {
  same_reference : l.entries.bytes.ghost_name ≡ l.initial.entries.bytes.ghost_name;
  passing : Passing l.initial.entries.bytes.now l.initial.entries.used (path_of l.path.steps.now) l.entries.bytes.now l.entries.used l.i;
}
