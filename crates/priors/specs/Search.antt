-- Rows by their places: where the row of a key is, or where it would go, as a search through the rows finds it. Assumes nothing.
use Rattle.std.specs.Prelude.{ℕ, zero, suc, List, [], ◌∷◌, Bool, cond, ◌&&◌, ltb, eqb, length, get_or}
use Rattle.priors.specs.Rows.{Row, row}

abbrev pub blank : Row
blank = row 0 0

-- how many rows stand before the first whose key is not below k
unfoldable pub place : List Row → ℕ → ℕ
place [] k = zero
place (r ∷ rs) k = cond (ltb r.key k) (suc (place rs k)) zero

-- the row at the place i has the key k
unfoldable pub holds : List Row → ℕ → ℕ → Bool
holds rs i k = ltb i (length rs) && eqb (get_or rs i blank).key k
