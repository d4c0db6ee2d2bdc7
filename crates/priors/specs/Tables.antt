-- The lent tables G and D: numbers 1 and 2. Index 0 is never read. Assumes nothing.
use Rattle.std.specs.Prelude.{ℕ, ◌+◌, ◌-◌, Bool, ◌&&◌, List, [], ◌∷◌, eqb, leb, length, get_or, Float}
use Rattle.std.specs.Float.Ieee as Ieee
use Rattle.std.specs.Float.{binary64, nan}
use Rattle.std.specs.Float.Ieee.{of_bits}
use Rattle.priors.specs.Limits.{max_table}
use Rattle.priors.specs.Below.{all_below}
use Rattle.priors.specs.Rules.{Rule, rule, first_broken}

-- what a call is lent as tables: ln gamma and digamma
pub record LentTables : Type 0 where
  pub G : List Float
  pub D : List Float

abbrev pub lent_tables : List Float → List Float → LentTables
lent_tables G D = record { G = G; D = D }

-- -2 ^ 40 and 2 ^ 40; `highest_is` and `lowest_is` of proofs/TableLaws.antt tie the bits to the numbers
abbrev pub lowest : Float
lowest = of_bits binary64 0xc270_0000_0000_0000

abbrev pub highest : Float
highest = of_bits binary64 0x4270_0000_0000_0000

-- within -2 ^ 40 to 2 ^ 40, both ends in. A NaN and an infinity are not
abbrev pub within : Float → Bool
within x = Ieee.le lowest x && Ieee.le x highest

-- the value at index k
abbrev pub table_at : List Float → ℕ → Float
table_at t k = get_or t k nan

-- the entry at index i + 1 is within
unfoldable pub entry_fits : List Float → ℕ → Bool
entry_fits t i = within (table_at t (i + 1))

-- every entry from index 1 on is
unfoldable pub table_entries_fit : List Float → Bool
table_entries_fit t = all_below (length t - 1) (entry_fits t)

unfoldable pub lengths_fit : List Float → List Float → Bool
lengths_fit g d = eqb (length g) (length d) && (leb 2 (length g) && leb (length g) max_table)

abbrev pub table_rules : List Float → List Float → List Rule
table_rules g d = rule 1 (lengths_fit g d) ∷ rule 2 (table_entries_fit g) ∷ rule 2 (table_entries_fit d) ∷ []

unfoldable pub tables_refusal : List Float → List Float → ℕ
tables_refusal g d = first_broken (table_rules g d)
