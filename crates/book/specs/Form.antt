-- Number 9 as a whole: the sizes of lent memory, which an opening tests too, and the form that each other call tests: of the state, of the used entries and of the
-- filled places' lengths. No other byte plays a part. Assumes nothing.
use Rattle.std.specs.Prelude.{ℕ, zero, suc, ◌*◌, ◌/◌, ◌%◌, min, Bool, true, ◌&&◌, ◌||◌, List, [], ◌∷◌, ltb, eqb, leb, length}
use Rattle.priors.specs.Word.{word}
use Rattle.priors.specs.Rows.{Row}
use Rattle.book.specs.declared.trackers.Tracker.{Tracker}
use Rattle.entries.specs.Limits.{max_window, max_entries, max_accepted, max_count, max_steps, entry_size, place_size}
use Rattle.entries.specs.Keys.{no_child, node_of, kind_of, child_of}
use Rattle.entries.specs.Entries.{rows}

-- ---- sizes: what 9 says of lent memory

abbrev pub capacity : List ℕ → ℕ
capacity book = length book / entry_size

unfoldable pub book_fits : List ℕ → Bool
book_fits book = eqb (length book % entry_size) 0 && (leb 1 (capacity book) && leb (capacity book) max_entries)

unfoldable pub queue_fits : ℕ → List ℕ → Bool
queue_fits window queue = leb (place_size * window) (length queue)

-- ---- entries

-- an entry by itself: an ending or a child, counted up to 2 ^ 30, and an ending's child address is zeros
unfoldable pub plain : Row → Bool
plain r =
    leb (kind_of r.key) 1
    && (leb r.count max_count
    && (eqb (kind_of r.key) 1 || eqb (child_of r.key) no_child))

-- an entry after one with the key k: it ascends, and a new node begins with its ending
unfoldable pub follows : ℕ → Row → Bool
follows k r = ltb k r.key && (eqb (node_of k) (node_of r.key) || eqb (kind_of r.key) 0)

unfoldable pub formed_after : ℕ → List Row → Bool
formed_after k [] = true
formed_after k (r ∷ rs) = plain r && (follows k r && formed_after r.key rs)

-- used entries: the first is an ending, and each after it follows the one before
unfoldable pub formed : List Row → Bool
formed [] = true
formed (r ∷ rs) = plain r && (eqb (kind_of r.key) 0 && formed_after r.key rs)

-- ---- the queue

-- the first n places hold lengths of 1 to 64
unfoldable pub lengths_fit : List ℕ → ℕ → Bool
lengths_fit queue zero = true
lengths_fit queue (suc n) = lengths_fit queue n && (leb 1 (word queue (place_size * n)) && leb (word queue (place_size * n)) max_steps)

-- how many places are filled
abbrev pub filled : Tracker → ℕ
filled t = min t.window t.accepted

-- ---- the form

unfoldable pub state_fits : Tracker → List ℕ → Bool
state_fits t book = leb t.window max_window && (leb t.used (capacity book) && leb t.accepted max_accepted)

unfoldable pub in_form : Tracker → List ℕ → List ℕ → Bool
in_form t book queue =
    book_fits book
    && (state_fits t book
    && (queue_fits t.window queue
    && (formed (rows book t.used)
    && lengths_fit queue (filled t))))
