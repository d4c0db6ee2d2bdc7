-- What is moved so far, as a function of the start.
use Prim.Native.Nat.{◌≤◌}
use mathlib.Core.Path.{◌≡◌}
use Rattle.entries.proofs.GapLaws.{shifted}
use Rattle.entries.proofs.entries.open_gap.Given as goal

abbrev pub invariant-loop-i : goal.invariant-loop-i
invariant-loop-i l = (l.from ≤ l.i) × (l.s ≡ shifted l.initial.s l.i l.to)
