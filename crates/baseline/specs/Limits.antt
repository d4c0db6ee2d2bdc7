-- The limits of document 01 for a baseline. Assumes nothing.
use Rattle.std.specs.Prelude.{ℕ}

abbrev pub max_sequences : ℕ
max_sequences = 64

abbrev pub max_paths : ℕ
max_paths = 65536

abbrev pub max_knots : ℕ
max_knots = 1024

-- values of a knot: two for each of the five figures
abbrev pub knot_values : ℕ
knot_values = 10
