-- Halving: the indices before lo are below, those from hi on are not.
use Rattle.std.proofs.Common.{◌≡◌, ℕ, ◌-◌, ◌≤◌, ◌<◌}
use mathlib.Core.Bool.{Bool, true, false}
use Rattle.priors.specs.Below.{Falls}
use Rattle.priors.proofs.places.partition_point.Given as goal

abbrev pub invariant-loop-lo : goal.invariant-loop-lo
invariant-loop-lo g l = record {
  from_le : l.from ≤ l.lo;
  lo_le : l.lo ≤ l.hi;
  hi_le : l.hi ≤ l.to;
  parted : (below : ℕ → Bool) → ((i : ℕ) (b : Bool) → i < l.to → goal.F-post g l.is_below i b → b ≡ below i) → Falls below l.to
      → ((i : ℕ) → l.from ≤ i → i < l.lo → below i ≡ true) × ((i : ℕ) → l.hi ≤ i → i < l.to → below i ≡ false);
}

abbrev pub decreases-loop-lo : goal.decreases-loop-lo
decreases-loop-lo g l = l.hi - l.lo
