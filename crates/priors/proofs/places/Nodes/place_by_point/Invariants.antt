-- Groups of one scale in turn; in each, the place of the one address with that scale and the point wanted.
use Prim.Native.Nat.{◌-◌, ◌≤◌}
use Rattle.priors.proofs.LayerLaws.{Passed}
use Rattle.priors.proofs.places.Nodes.place_by_point.Given as goal

abbrev pub invariant-loop-start : goal.invariant-loop-start
invariant-loop-start l = (l.start ≤ l.n) × Passed l.self.bytes.now l.layer l.rank l.start

abbrev pub decreases-loop-start : goal.decreases-loop-start
decreases-loop-start l = l.n - l.start
