-- What only the inner functions of an add say of each other: where a path's keys stand, what became of a path, and what an add leans on and hands to the next. Assumes
-- nothing.
use Rattle.std.specs.Prelude.{ℕ, ◌+◌, ◌*◌, ◌^◌, ◌≤◌, ◌<◌, ◌≡◌, true, List, length, get_or, Result, Ok, Err}
use Rattle.priors.specs.declared.refusals.Reason.{Reason}
use Rattle.priors.specs.declared.refusals.Reason.TheVariants.{BookFull}
use Rattle.priors.specs.Rows.{Row, keys, Ascends}
use Rattle.priors.specs.Search.{holds}
use Rattle.book.specs.declared.trackers.Tracker.{Tracker}
use Rattle.entries.specs.Limits.{max_accepted, max_count, max_steps, entry_size, place_size}
use Rattle.entries.specs.Entries.{rows, Rewritten, CountsUpTo}
use Rattle.book.specs.Path.{path_of, whole_path, listed_keys, counted_keys}
use Rattle.book.specs.Form.{capacity, book_fits, lengths_fit, filled}
use Rattle.book.specs.Changes.{touch_all, bump_all, EndingsListed}
use Rattle.book.specs.Calls.{unless_refused, listed_rows, state_after, book_after, queue_with}
use Rattle.book.specs.Batches.{next_number}

-- ---- a path

-- the key numbered j of ks stands at the place numbered j of ps
abbrev pub Stand : List Row → List ℕ → List ℕ → Type 0
Stand rs ks ps = (j : ℕ) → j < length ks → holds rs (get_or ps j 0) (get_or ks j 0) ≡ true

-- the rows of s with the path's nodes and transitions listed
abbrev pub with_listed : List ℕ → ℕ → List ℕ → List Row
with_listed s n path = touch_all (listed_keys (path_of path)) (rows s n)

-- s' is s with the path listed and counted, where the entries are within the limit then, and m of its entries are used; else it is s, and as many are used as were
abbrev pub Outcome : List ℕ → List ℕ → ℕ → ℕ → List ℕ → ℕ → Result (Unit {0}) Reason → Type 0
Outcome s s' n m path limit (Ok x) = (length (with_listed s n path) ≤ limit) × Rewritten s s' m (bump_all (counted_keys (path_of path)) (with_listed s n path))
Outcome s s' n m path limit (Err r) = (r ≡ BookFull) × (limit < length (with_listed s n path)) × (s' ≡ s) × (m ≡ n)

-- ---- what an add leans on once no test turns it back

-- there is a place for each path of the window, and the filled ones hold paths
pub record Leaves (t : Tracker) (queue : List ℕ) : Type 0 where
  pub places_fit : place_size * t.window ≤ length queue
  pub lengths_hold : lengths_fit queue (filled t) ≡ true

pub record Ready (t : Tracker) (book queue path : List ℕ) : Type 0 where
  pub book_sized : book_fits book ≡ true
  pub used_fit : entry_size * t.used ≤ length book
  pub ascends : Ascends 0 (keys (rows book t.used))
  pub endings_listed : EndingsListed (rows book t.used)
  pub counts_fit : CountsUpTo (2 ^ 31) (rows book t.used)
  pub queue_sized : Leaves t queue
  pub path_whole : whole_path path ≡ true
  pub not_last : t.accepted < max_accepted
  pub room : length (listed_rows t book path) ≤ capacity book

-- ---- from one add to the next

-- the form, but for counts: in memory altered by others they may pass 2 ^ 30, by no more than 64 a path
pub record Going (t : Tracker) (book queue : List ℕ) : Type 0 where
  pub book_sized : book_fits book ≡ true
  pub used_fit : entry_size * t.used ≤ length book
  pub ascends : Ascends 0 (keys (rows book t.used))
  pub endings_listed : EndingsListed (rows book t.used)
  pub counts_fit : CountsUpTo (max_count + max_steps * t.accepted) (rows book t.used)
  pub queue_sized : Leaves t queue
  pub accepted_fit : t.accepted ≤ max_accepted

-- the state with one more path and this many entries
abbrev pub next_state : Tracker → ℕ → Tracker
next_state t used = record { window = t.window; used = used; accepted = t.accepted + 1 }

-- number and what is left after one add
pub record Gone (t : Tracker) (book queue path : List ℕ) (n : ℕ) (t' : Tracker) (book' queue' : List ℕ) : Type 0 where
  pub number_is : n ≡ next_number (record { state = t; book = book; queue = queue }) path
  pub state_is : t' ≡ unless_refused n (state_after t book queue path) t
  pub book_is : book' ≡ unless_refused n (book_after t book queue path) book
  pub queue_is : queue' ≡ unless_refused n (queue_with t queue path) queue
  pub going : Going t' book' queue'
