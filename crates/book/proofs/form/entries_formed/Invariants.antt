-- The loop's invariant: the answer of the whole is that of what is left, after the last key.
-- Assumes nothing.
use mathlib.Core.Path.{◌≡◌}
use lib.ListN.{drop}
use Rattle.entries.specs.Keys.{key_value}
use Rattle.entries.specs.Entries.{rows}
use Rattle.book.specs.Form.{formed, formed_after}
use Rattle.book.proofs.form.entries_formed.Given as goal

abbrev pub invariant-loop-i : goal.invariant-loop-i
invariant-loop-i l = formed (rows l.book l.used) ≡ formed_after (key_value l.last) (drop l.i (rows l.book l.used))
