-- How the code tells which entries stay, in one pass: in a formed book a node's entries stand together, its ending first, so an ending's node is told by reading on to the
-- next node (`kept_ahead_lem` of proofs/AheadLaws.antt: these are the rows that `kept` names). Then what one move and one turn of the pass leave. Assumes nothing.
use Rattle.std.specs.Prelude.{ℕ, ◌+◌, ◌-◌, ◌*◌, ◌/◌, ◌≡◌, List, [], ◌∷◌, ◌++◌, Bool, false, cond, ◌&&◌, ◌||◌, ltb, eqb, length, drop}
use Rattle.priors.specs.Rows.{Row}
use Rattle.entries.specs.Limits.{entry_size}
use Rattle.entries.specs.Keys.{node_of, kind_of}
use Rattle.entries.specs.Entries.{row_at, rows}

-- of the rows in front that are of the node n, some counts
unfoldable pub counts_ahead : ℕ → List Row → Bool
counts_ahead n [] = false
counts_ahead n (r ∷ rs) = eqb (node_of r.key) n && (ltb 0 r.count || counts_ahead n rs)

-- the first row stays: it counts, or it is an ending and of those behind it some of its node counts
unfoldable pub first_stays : List Row → Bool
first_stays [] = false
first_stays (r ∷ rs) = ltb 0 r.count || (eqb (kind_of r.key) 0 && counts_ahead (node_of r.key) rs)

unfoldable pub kept_ahead : List Row → List Row
kept_ahead [] = []
kept_ahead (r ∷ rs) = cond (first_stays (r ∷ rs)) (r ∷ kept_ahead rs) (kept_ahead rs)

-- ---- in bytes

-- the entries from the place i on, of n
abbrev pub rows_from : List ℕ → ℕ → ℕ → List Row
rows_from s n i = rows (drop (entry_size * i) s) (n - i)

-- all entries of s
abbrev pub rows_in : List ℕ → List Row
rows_in s = rows s (length s / entry_size)

-- the entry at the place `from` stands at the place `to` as well, behind those before it; nothing past it is changed
pub record Moved (s s' : List ℕ) (from to : ℕ) : Type 0 where
  pub rows_are : rows s' (to + 1) ≡ rows s to ++ row_at s (entry_size * from) ∷ []
  pub rest_is : drop (entry_size * (to + 1)) s' ≡ drop (entry_size * (to + 1)) s
