-- A path is lent as bytes, 8 a step, and is the list of its steps' ranks. What a path lists and what it counts. Assumes nothing.
use Rattle.std.specs.Prelude.{ℕ, zero, suc, ◌/◌, ◌%◌, Bool, ◌&&◌, eqb, leb, length, drop}
use mathlib.Core.List.{List, [], ◌∷◌, flat_map}
use Rattle.priors.specs.Address.{rank_at, address_bytes}
use Rattle.entries.specs.Limits.{step_size, max_steps}
use Rattle.entries.specs.Keys.{end_key, child_key}

abbrev pub Steps : Type 0
Steps = List ℕ

-- the first n steps of s
unfoldable pub steps_of : List ℕ → ℕ → Steps
steps_of s zero = []
steps_of s (suc n) = rank_at s 0 ∷ steps_of (drop step_size s) n

-- the steps of a lent path
abbrev pub path_of : List ℕ → Steps
path_of s = steps_of s (length s / step_size)

-- and back
abbrev pub step_bytes : Steps → List ℕ
step_bytes p = flat_map address_bytes p

-- a lent path has 1 to 64 whole steps
unfoldable pub whole_path : List ℕ → Bool
whole_path s = eqb (length s % step_size) 0 && (leb 1 (length s / step_size) && leb (length s / step_size) max_steps)

-- what a path lists: each node of it with its ending, and the child of each neighbouring pair
unfoldable pub listed_keys : Steps → List ℕ
listed_keys [] = []
listed_keys (a ∷ []) = end_key a ∷ []
listed_keys (a ∷ b ∷ p) = end_key a ∷ child_key a b ∷ listed_keys (b ∷ p)

-- what a path counts: the child of each neighbouring pair, and the ending of the last step
unfoldable pub counted_keys : Steps → List ℕ
counted_keys [] = []
counted_keys (a ∷ []) = end_key a ∷ []
counted_keys (a ∷ b ∷ p) = child_key a b ∷ counted_keys (b ∷ p)
