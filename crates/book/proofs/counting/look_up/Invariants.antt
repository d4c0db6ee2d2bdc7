-- The loop's invariant: the keys looked up so far stand at the places told.
-- Assumes nothing.
use mathlib.Core.Path.{◌≡◌}
use mathlib.Core.Bool.{true}
use Prim.Native.Nat.{ℕ, ◌<◌}
use lib.ListN.{get_or}
use Rattle.priors.specs.Search.{holds}
use Rattle.book.specs.Path.{path_of, counted_keys}
use Rattle.entries.specs.Entries.{rows}
use Rattle.book.proofs.counting.look_up.Given as goal

abbrev pub invariant-loop-i : goal.invariant-loop-i
invariant-loop-i l = (j : ℕ) → j < l.i → holds (rows l.entries.bytes.now l.entries.used) (get_or l.places j 0) (get_or (counted_keys (path_of l.path.steps.now)) j 0) ≡ true
