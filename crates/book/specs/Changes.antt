-- How the rows of a book change where a path is added. Assumes nothing.
use Rattle.std.specs.Prelude.{ℕ, ◌+◌, ◌-◌, ◌≡◌, List, [], ◌∷◌}
use Rattle.std.specs.Prelude.{Option, None, Some}
use mathlib.Core.HLevel.{Σ_prop_path}
use Rattle.std.specs.Coded.{Π_prop, →_prop, Coded-set, coded_option, coded_ℕ}
use Rattle.priors.specs.Rows.{Row, look, change}
use Rattle.entries.specs.Keys.{end_key, node_of}
use Rattle.book.specs.Path.{Steps, listed_keys, counted_keys}
use Rattle.book.specs.Figures.{Listed}

-- one change for each key in turn
unfoldable pub change_all : Option ℕ → (ℕ → ℕ) → List ℕ → List Row → List Row
change_all new step [] rs = rs
change_all new step (k ∷ ks) rs = change_all new step ks (change new step k rs)

-- each key is listed: a missing one comes in with 0
abbrev pub touch_all : List ℕ → List Row → List Row
touch_all = change_all (Some 0) (λ c. c)

-- each key counts one more: a missing one comes in with 1
abbrev pub bump_all : List ℕ → List Row → List Row
bump_all = change_all (Some 1) (λ c. c + 1)

-- each key counts one less, never below 0: a missing one is passed over
abbrev pub fade_all : List ℕ → List Row → List Row
fade_all = change_all None (λ c. c - 1)

-- what a leaving path counted
abbrev pub left_keys : Option Steps → List ℕ
left_keys None = []
left_keys (Some l) = counted_keys l

-- the path p is added, then l is taken away
unfoldable pub add_rows : Steps → Option Steps → List Row → List Row
add_rows p l rs = fade_all (left_keys l) (bump_all (counted_keys p) (touch_all (listed_keys p) rs))

-- whatever key has a row, its node's ending has one
abbrev pub EndingsListed : List Row → Type 0
EndingsListed rs = (k : ℕ) → Listed k rs → Listed (end_key (node_of k)) rs

-- that is a fact with one proof, so that it can stand beside a book's entries: a row has one count
Listed-prop : (k : ℕ) (rs : List Row) → IsProp (Listed k rs)
Listed-prop k rs u v = let same : u.0 ≡ v.0 = cc in Σ_prop_path (λ c. Coded-set (coded_option coded_ℕ) (look k rs) (Some c)) same

pub EndingsListed-prop : (rs : List Row) → IsProp (EndingsListed rs)
EndingsListed-prop rs = Π_prop (λ k. →_prop (Listed-prop (end_key (node_of k)) rs))
