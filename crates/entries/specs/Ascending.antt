-- The ascent of keys is a fact with one proof, so that it can stand beside a book's entries. Assumes nothing.
use Rattle.std.specs.Prelude.{ℕ, suc, List, [], ◌∷◌}
use Rattle.std.specs.Coded.{×_prop, Unit-prop, le_prop}
use Rattle.priors.specs.Rows.{Ascends}

pub Ascends-prop : (low : ℕ) (ks : List ℕ) → IsProp (Ascends low ks)
Ascends-prop low [] = Unit-prop
Ascends-prop low (k ∷ ks) = ×_prop le_prop (Ascends-prop (suc k) ks)
