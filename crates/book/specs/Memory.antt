-- Memory quoted to the entry: how many entries a list of paths needs, told from the paths alone, with no keys and no listing. Then the numbers that an opening and its
-- adds are answered in a book that serves, and in one that is too small; `LeastServes` (Corollaries of divergence) says which books these are. Assumes nothing.
use Rattle.std.specs.Prelude.{ℕ, ◌+◌, ◌≡◌, ◌⊎◌, Bool, true, false, cond, ◌&&◌, ◌||◌, eqb}
use mathlib.Core.List.{List, [], ◌∷◌, map, flat_map}
use Rattle.book.specs.Path.{Steps, step_bytes}
use Rattle.book.specs.Calls.{BookAnswer}
use Rattle.book.specs.Figures.{All}
use Rattle.book.specs.Claims.{BookCall, add}

-- ---- the least number of entries

-- x is one of a list, by a test that tells which two are the same
unfoldable pub among : {X : Type 0} → (X → X → Bool) → X → List X → Bool
among same x [] = false
among same x (y ∷ ys) = same x y || among same x ys

-- how many different ones a list holds: each counts where it stands last
unfoldable pub different : {X : Type 0} → (X → X → Bool) → List X → ℕ
different same [] = 0
different same (x ∷ xs) = cond (among same x xs) 0 1 + different same xs

-- the transitions of a path: its neighbouring pairs, from the first to the second
unfoldable pub pairs : Steps → List (ℕ × ℕ)
pairs [] = []
pairs (a ∷ []) = []
pairs (a ∷ b ∷ p) = (a, b) ∷ pairs (b ∷ p)

-- two transitions are the same: from one node to one child
abbrev pub same_pair : ℕ × ℕ → ℕ × ℕ → Bool
same_pair s t = eqb s.0 t.0 && eqb s.1 t.1

-- what a list of paths needs: its different nodes plus its different transitions
unfoldable pub least : List Steps → ℕ
least L = different eqb (flat_map (λ (p : Steps). p) L) + different same_pair (flat_map pairs L)

-- ---- adds, and the numbers that they are answered after an opening

-- an add of each path, in the list's order
abbrev pub adds : List Steps → List BookCall
adds = map (λ (p : Steps). add (step_bytes p))

abbrev pub numbers : List BookAnswer → List ℕ
numbers = map (λ (a : BookAnswer). a.number)

-- the opening and every add are accepted
abbrev pub AllTaken : List ℕ → Type 0
AllTaken = All (λ n. n ≡ 0)

-- the opening is accepted, some add is answered 12, and each that is not is taken
abbrev pub SomeTwelve : List ℕ → Type 0
SomeTwelve [] = ⊥
SomeTwelve (opened ∷ added) = (opened ≡ 0) × (among eqb 12 added ≡ true) × All (λ n. (n ≡ 0) ⊎ (n ≡ 12)) added
