use Rattle.std.proofs.Common.{◌≡◌, ℕ, ◌<◌}
use mathlib.Core.Bool.{Bool, true}
use Rattle.priors.specs.Below.{all_below}
use Rattle.priors.specs.Priors.{record_at, record_count}
use Rattle.priors.proofs.records.every_record.Given as goal

abbrev pub invariant-loop-i : goal.invariant-loop-i
invariant-loop-i g l = (p : ℕ → Bool) → ((i : ℕ) (b : Bool) → i < record_count l.s → goal.F-post g l.test i (record_at l.s i) b → b ≡ p i) → all_below l.i p ≡ true
