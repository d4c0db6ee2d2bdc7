-- Rules, of which the first broken one gives the number. Assumes nothing.
use Rattle.std.specs.Prelude.{ℕ, Bool, cond, List, [], ◌∷◌}

pub record Rule : Type 0 where
  pub number : ℕ
  pub holds : Bool

abbrev pub rule : ℕ → Bool → Rule
rule n b = record { number = n; holds = b }

-- the number of the first rule that is broken; 0 where none is
abbrev pub first_broken : List Rule → ℕ
first_broken [] = 0
first_broken (r ∷ rs) = cond r.holds (first_broken rs) r.number
