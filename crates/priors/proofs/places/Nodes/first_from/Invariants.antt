-- Steps that double: the records from `from` on and before lo are below; the last step is halved.
use Prim.Native.Nat.{ℕ, ◌-◌, ◌≤◌, ◌<◌}
use Rattle.priors.specs.Priors.{record_at}
use Rattle.priors.proofs.places.Nodes.first_from.Given as goal

abbrev pub invariant-loop-step : goal.invariant-loop-step
invariant-loop-step l = (l.from ≤ l.lo) × (l.lo ≤ l.n) × (1 ≤ l.step) × ((j : ℕ) → l.from ≤ j → j < l.lo → (record_at l.self.bytes.now j).rank < l.rank)

abbrev pub decreases-loop-step : goal.decreases-loop-step
decreases-loop-step l = l.n - l.lo
