-- Figures of paths that name no keys: how often a transition stands in a path, and whether a path ends at a node. The recount's lists for readings (`RecountNodes`
-- of divergence) and `Corollaries` are made of them. Then how many paths a window holds, what it is to be within the limits, and what it is to be listed. Assumes nothing.
use Rattle.std.specs.Prelude.{ℕ, zero, suc, ◌+◌, ◌^◌, ◌<◌, ◌≤◌, min, ◌≡◌, cond, ◌&&◌, eqb, length}
use mathlib.Core.List.{List, [], ◌∷◌, Memᴰ}
use Rattle.std.specs.Coded.{×_prop, Unit-prop, le_prop}
use Rattle.std.specs.Prelude.{Some}
use Rattle.priors.specs.Rows.{Row, look}
use Rattle.entries.specs.Limits.{max_steps}
use Rattle.book.specs.Path.{Steps}

-- a figure of each path, summed over a list of paths
unfoldable pub total : (Steps → ℕ) → List Steps → ℕ
total f [] = 0
total f (p ∷ H) = f p + total f H

-- how often b stands right after a
unfoldable pub transitions : ℕ → ℕ → Steps → ℕ
transitions a b [] = 0
transitions a b (x ∷ []) = 0
transitions a b (x ∷ y ∷ p) = cond (eqb a x && eqb b y) 1 0 + transitions a b (y ∷ p)

-- 1 if the path ends at a
unfoldable pub endings : ℕ → Steps → ℕ
endings a [] = 0
endings a (x ∷ []) = cond (eqb a x) 1 0
endings a (x ∷ y ∷ p) = endings a (y ∷ p)

-- how many of n paths a window of W holds
abbrev pub in_window : ℕ → ℕ → ℕ
in_window zero n = n
in_window (suc w) n = min (suc w) n

-- ---- paths within the limits

-- P holds of each of a list
abbrev pub All : {X : Type 0} → (X → Type 0) → List X → Type 0
All P [] = Unit {0}
All P (x ∷ xs) = P x × All P xs

-- every step is a rank
abbrev pub Ranks : Steps → Type 0
Ranks = All (λ x. x < 2 ^ 64)

-- that is a fact with one proof, so that it can stand beside a path
pub Ranks-prop : (p : Steps) → IsProp (Ranks p)
Ranks-prop [] = Unit-prop
Ranks-prop (x ∷ p) = ×_prop le_prop (Ranks-prop p)

abbrev pub AllRanks : List Steps → Type 0
AllRanks = All Ranks

-- a path has 1 to 64 steps
abbrev pub Whole : Steps → Type 0
Whole p = (1 ≤ length p) × (length p ≤ max_steps)

abbrev pub AllWhole : List Steps → Type 0
AllWhole = All Whole

-- ---- what is listed

-- k has a row
abbrev pub Listed : ℕ → List Row → Type 0
Listed k rs = (c : ℕ) × (look k rs ≡ Some c)

-- some path of a list has the figure f above 0
abbrev pub Somewhere : (Steps → ℕ) → List Steps → Type 0
Somewhere f H = (p : Steps) × Memᴰ p H × (0 < f p)
