-- What an opening and an add answer, and what they leave in the lent book and queue. A number is a refusal's; 0 is none. A list of paths is in
-- `Batches`, a tidy in `Tidy`. Assumes nothing.
use Rattle.std.specs.Prelude.{ℕ, zero, suc, ◌+◌, ◌-◌, ◌*◌, ◌%◌, ◌/◌, cond, ◌&&◌, List, [], ◌∷◌, ◌++◌, ltb, leb, length, drop, replicate}
use Rattle.std.specs.Prelude.{Option, None, Some, Result, Ok, Err}
use Rattle.priors.specs.Word.{word, word_bytes, store}
use Rattle.priors.specs.Rows.{Row}
use Rattle.priors.specs.Rules.{Rule, rule, first_broken}
use Rattle.priors.specs.Refusals.{checked_number}
use Rattle.priors.specs.declared.refusals.Reason.{Reason}
use Rattle.book.specs.declared.trackers.Tracker.{Tracker}
use Rattle.entries.specs.Limits.{max_window, max_accepted, max_steps, step_size, place_size}
use Rattle.entries.specs.Entries.{rows, bytes_of}
use Rattle.book.specs.Path.{Steps, steps_of, path_of, whole_path, listed_keys}
use Rattle.book.specs.Form.{capacity, book_fits, queue_fits, in_form}
use Rattle.book.specs.Changes.{touch_all, add_rows}

abbrev pub zeros : ℕ → List ℕ
zeros n = replicate n 0

-- a book of so many bytes that has these entries: the entries, and zeros to its end
unfoldable pub book_of : List Row → ℕ → List ℕ
book_of rs size = bytes_of rs ++ zeros (size - length (bytes_of rs))

-- ---- answers

-- what a user has of a tracker: the state, and the book and the queue that are lent with it
pub record Machine : Type 0 where
  pub state : Tracker
  pub book : List ℕ
  pub queue : List ℕ

-- what a call that may change a tracker answers and leaves: the refusal's number, 0 for none; the state that comes back, which a refused opening gives none of; how
-- many paths were taken, which a list of paths alone tells; and what it was lent as book and queue, as they are afterwards
pub record BookAnswer : Type 0 where
  pub number : ℕ
  pub state : Option Tracker
  pub taken : Option ℕ
  pub book : List ℕ
  pub queue : List ℕ

-- the state that an opening gives
abbrev pub opened_state : Result Tracker Reason → Option Tracker
opened_state (Ok t) = Some t
opened_state (Err r) = None

-- what the code's answer and the lent book and queue afterwards come to
abbrev pub opened_answer : Result Tracker Reason → List ℕ → List ℕ → BookAnswer
opened_answer a book queue = record { number = checked_number a; state = opened_state a; taken = None; book = book; queue = queue }

-- the state that an add or a tidy gives; refused, it is the state as it was
abbrev pub changed_state : Tracker → Result Tracker Reason → Tracker
changed_state t (Ok t') = t'
changed_state t (Err r) = t

abbrev pub changed_answer : Tracker → Result Tracker Reason → List ℕ → List ℕ → BookAnswer
changed_answer t a book queue = record { number = checked_number a; state = Some (changed_state t a); taken = None; book = book; queue = queue }

-- x where nothing is refused, else y
abbrev pub unless_refused {ℓ} : {X : Type ℓ} → ℕ → X → X → X
unless_refused zero x y = x
unless_refused (suc n) x y = y

-- ---- an opening

unfoldable pub open_number : ℕ → List ℕ → List ℕ → ℕ
open_number window book queue = first_broken (rule 8 (leb window max_window) ∷ rule 9 (book_fits book && queue_fits window queue) ∷ [])

abbrev pub fresh : ℕ → Tracker
fresh window = record { window = window; used = 0; accepted = 0 }

unfoldable pub open_state : ℕ → List ℕ → List ℕ → Option Tracker
open_state window book queue = unless_refused (open_number window book queue) (Some (fresh window)) None

-- the lent book and the lent queue afterwards
unfoldable pub open_book : ℕ → List ℕ → List ℕ → List ℕ
open_book window book queue = unless_refused (open_number window book queue) (zeros (length book)) book

unfoldable pub open_queue : ℕ → List ℕ → List ℕ → List ℕ
open_queue window book queue = unless_refused (open_number window book queue) (zeros (length queue)) queue

-- what an opening answers and leaves
abbrev pub open_answer : ℕ → List ℕ → List ℕ → BookAnswer
open_answer window book queue = record {
  number = open_number window book queue;
  state = open_state window book queue;
  taken = None;
  book = open_book window book queue;
  queue = open_queue window book queue;
}

-- ---- an add

-- the index where the place of the next path starts; with a window of 0 there is no place, and the number is not used
abbrev pub next_place : Tracker → ℕ
next_place t = place_size * (t.accepted % t.window)

-- the steps that lie in the place that starts at index a
abbrev pub steps_at : List ℕ → ℕ → Steps
steps_at queue a = steps_of (drop (a + 4) queue) (word queue a)

-- the oldest path past the window: what lies in the place of the next one, once the window is full
unfoldable pub leaving : Tracker → List ℕ → Option Steps
leaving t queue = cond (leb 1 t.window && leb t.window t.accepted) (Some (steps_at queue (next_place t))) None

-- the rows with the path's nodes and transitions listed
abbrev pub listed_rows : Tracker → List ℕ → List ℕ → List Row
listed_rows t book path = touch_all (listed_keys (path_of path)) (rows book t.used)

-- the tests behind that of the form
abbrev pub path_rules : Tracker → List ℕ → List ℕ → List Rule
path_rules t book path =
    rule 10 (whole_path path)
    ∷ rule 11 (ltb t.accepted max_accepted)
    ∷ rule 12 (leb (length (listed_rows t book path)) (capacity book))
    ∷ []

unfoldable pub add_number : Tracker → List ℕ → List ℕ → List ℕ → ℕ
add_number t book queue path = first_broken (rule 9 (in_form t book queue) ∷ path_rules t book path)

-- the rows afterwards
unfoldable pub rows_after : Tracker → List ℕ → List ℕ → List ℕ → List Row
rows_after t book queue path = add_rows (path_of path) (leaving t queue) (rows book t.used)

-- the state with the path in it
unfoldable pub state_after : Tracker → List ℕ → List ℕ → List ℕ → Tracker
state_after t book queue path = record { window = t.window; used = length (rows_after t book queue path); accepted = t.accepted + 1 }

unfoldable pub add_state : Tracker → List ℕ → List ℕ → List ℕ → Tracker
add_state t book queue path = unless_refused (add_number t book queue path) (state_after t book queue path) t

-- the book with the path in it: the entries, and the bytes behind them as they were
unfoldable pub book_after : Tracker → List ℕ → List ℕ → List ℕ → List ℕ
book_after t book queue path = bytes_of (rows_after t book queue path) ++ drop (length (bytes_of (rows_after t book queue path))) book

-- the lent book afterwards; behind the entries stand the bytes that stood there: zeros from an opening on, anything in memory altered by others
unfoldable pub add_book : Tracker → List ℕ → List ℕ → List ℕ → List ℕ
add_book t book queue path = unless_refused (add_number t book queue path) (book_after t book queue path) book

-- a place of the queue: length, steps, zeros
unfoldable pub place_bytes : List ℕ → List ℕ
place_bytes path = word_bytes (length path / step_size) ++ (path ++ zeros (step_size * max_steps - length path))

unfoldable pub queue_with : Tracker → List ℕ → List ℕ → List ℕ
queue_with t queue path = cond (leb 1 t.window) (store queue (next_place t) (place_bytes path)) queue

-- the lent queue afterwards
unfoldable pub add_queue : Tracker → List ℕ → List ℕ → List ℕ → List ℕ
add_queue t book queue path = unless_refused (add_number t book queue path) (queue_with t queue path) queue

-- what an add answers and leaves
abbrev pub add_answer : Tracker → List ℕ → List ℕ → List ℕ → BookAnswer
add_answer t book queue path = record {
  number = add_number t book queue path;
  state = Some (add_state t book queue path);
  taken = None;
  book = add_book t book queue path;
  queue = add_queue t book queue path;
}
