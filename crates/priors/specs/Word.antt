-- A field: 32 bits, little-endian. Assumes nothing.
use Rattle.std.specs.Prelude.{ℕ, ◌+◌, ◌*◌, ◌/◌, ◌%◌, List, [], ◌∷◌, ◌++◌, length, get_or, take, drop}

-- the field of s that starts at index `at`
unfoldable pub word : List ℕ → ℕ → ℕ
word s at = get_or s at 0 + 256 * get_or s (at + 1) 0 + 65536 * get_or s (at + 2) 0 + 16777216 * get_or s (at + 3) 0

-- a field's four bytes
abbrev pub word_bytes : ℕ → List ℕ
word_bytes v = v % 256 ∷ v / 256 % 256 ∷ v / 65536 % 256 ∷ v / 16777216 % 256 ∷ []

-- s with xs in the place of what stands from index `at`
unfoldable pub store : List ℕ → ℕ → List ℕ → List ℕ
store s at xs = take at s ++ (xs ++ drop (at + length xs) s)
