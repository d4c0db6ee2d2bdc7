-- From the last record with the slot of i back along the links: none passed has one point with it.
use mathlib.Core.Path.{◌≡◌}
use Prim.Native.Nat.{◌-◌, ◌≤◌, ◌<◌}
use Rattle.priors.specs.Priors.{record_at}
use Rattle.priors.specs.Layer.{slot_of}
use Rattle.priors.proofs.SlotLaws.{ClearFrom}
use Rattle.priors.proofs.layers.Few.clear_along.Given as goal

abbrev pub invariant-loop-at : goal.invariant-loop-at
invariant-loop-at l = (l.at ≤ l.i) × (l.own ≡ (record_at l.self.nodes.bytes.now l.i).rank) × ClearFrom l.self.nodes.bytes.now l.layer l.i l.at × (0 < l.at → slot_of l.self.nodes.bytes.now (l.at - 1) ≡ slot_of l.self.nodes.bytes.now l.i)

abbrev pub decreases-loop-at : goal.decreases-loop-at
decreases-loop-at l = l.at
