-- A book's bytes as rows of (key, count), and rows as bytes: 24 an entry, node, kind, child address, count. Assumes nothing.
use Rattle.std.specs.Prelude.{ℕ, zero, suc, ◌+◌, ◌*◌, ◌≤◌, ◌≡◌, List, [], ◌∷◌, ◌++◌, cond, length, take, drop, Result, Ok, Err}
use Rattle.priors.specs.Word.{word, word_bytes, store}
use Rattle.priors.specs.Address.{rank_at, address_bytes}
use Rattle.priors.specs.Rows.{Row, row}
use Rattle.priors.specs.Search.{place, holds}
use Rattle.entries.specs.declared.keys.Key.{Key}
use Rattle.entries.specs.Limits.{entry_size}
use Rattle.entries.specs.Keys.{key_of, node_of, kind_of, child_of}

-- the fields of the key of the entry whose bytes start at index a
abbrev pub fields_at : List ℕ → ℕ → Key
fields_at s a = record { node = rank_at s a; kind = word s (a + 8); child = rank_at s (a + 12) }

-- its key
unfoldable pub key_at : List ℕ → ℕ → ℕ
key_at s a = key_of (rank_at s a) (word s (a + 8)) (rank_at s (a + 12))

unfoldable pub row_at : List ℕ → ℕ → Row
row_at s a = row (key_at s a) (word s (a + 20))

-- the first n entries of s
unfoldable pub rows : List ℕ → ℕ → List Row
rows s zero = []
rows s (suc n) = row_at s 0 ∷ rows (drop entry_size s) n

unfoldable pub row_bytes : Row → List ℕ
row_bytes r = address_bytes (node_of r.key) ++ (word_bytes (kind_of r.key) ++ (address_bytes (child_of r.key) ++ word_bytes r.count))

unfoldable pub bytes_of : List Row → List ℕ
bytes_of [] = []
bytes_of (r ∷ rs) = row_bytes r ++ bytes_of rs

-- no count is above m
abbrev pub CountsUpTo : ℕ → List Row → Type 0
CountsUpTo m [] = Unit {0}
CountsUpTo m (r ∷ rs) = (r.count ≤ m) × CountsUpTo m rs

-- ---- finding a key

-- the place of the row with the key k, or the place where it would go
unfoldable pub find_in : List Row → ℕ → Result ℕ ℕ
find_in rs k = cond (holds rs (place rs k) k) (Ok (place rs k)) (Err (place rs k))

-- ---- changing bytes

-- s with r put in at the place i of n entries: those from there on lie one place further up
unfoldable pub with_entry : List ℕ → ℕ → ℕ → Row → List ℕ
with_entry s n i r =
    take (entry_size * i) s
    ++ (row_bytes r ++ (drop (entry_size * i) (take (entry_size * n) s) ++ drop (entry_size * n + entry_size) s))

-- the count of the entry at the place i
abbrev pub entry_count_at : List ℕ → ℕ → ℕ
entry_count_at s i = word s (entry_size * i + 20)

-- s with the count v there
unfoldable pub with_count : List ℕ → ℕ → ℕ → List ℕ
with_count s i v = store s (entry_size * i + 20) (word_bytes v)

-- s' holds the rows rs in n entries, and what is past them is as in s
pub record Rewritten (s s' : List ℕ) (n : ℕ) (rs : List Row) : Type 0 where
  pub number_is : n ≡ length rs
  pub rows_are : rows s' n ≡ rs
  pub rest_is : drop (entry_size * n) s' ≡ drop (entry_size * n) s
