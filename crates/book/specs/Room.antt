-- What a dry run looks at: which of the keys ks, in turn, would bring a row in. Assumes nothing.
use Rattle.std.specs.Prelude.{ℕ, List, not, cond, ◌&&◌, eqb, get_or, take}
use Rattle.priors.specs.Rows.{Row}
use Rattle.priors.specs.Search.{place, holds}
use Rattle.book.specs.Recount.{occurrences}

-- 1 if the key numbered j has no row and stands for the first time
abbrev pub brings : List Row → List ℕ → ℕ → ℕ
brings rs ks j = cond (not (holds rs (place rs (get_or ks j 0)) (get_or ks j 0)) && eqb (occurrences (get_or ks j 0) (take j ks)) 0) 1 0
