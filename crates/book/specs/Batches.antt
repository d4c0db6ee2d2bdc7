-- A list of paths, lent as places that are laid out like those of a queue: adds one after another behind one test of the form, up to the first that is refused. A number
-- is a refusal's; 0 is none. Assumes nothing.
use Rattle.std.specs.Prelude.{ℕ, zero, suc, ◌+◌, ◌-◌, ◌*◌, ◌/◌, cond, List, [], ◌∷◌, ◌++◌, leb, length, take, drop}
use Rattle.std.specs.Prelude.{Some, Result, Ok, Err}
use Rattle.priors.specs.Word.{word}
use Rattle.priors.specs.Rules.{first_broken}
use Rattle.priors.specs.Refusals.{reason_number}
use Rattle.book.specs.declared.trackers.Tracker.{Tracker}
use Rattle.book.specs.declared.trackers.Taken.{Taken}
use Rattle.book.specs.declared.trackers.Stopped.{Stopped}
use Rattle.entries.specs.Limits.{max_steps, step_size, place_size}
use Rattle.book.specs.Path.{Steps, path_of}
use Rattle.book.specs.Form.{in_form}
use Rattle.book.specs.Calls.{Machine, BookAnswer, unless_refused, path_rules, state_after, book_after, queue_with}

-- ---- lent places

-- the path in the place numbered k: as many steps as its length says; bytes after them are not read. A length over 64 is no path, and gets 10 as an empty one does
unfoldable pub path_in : List ℕ → ℕ → List ℕ
path_in places k =
    let steps = word places (place_size * k) in
    cond (leb steps max_steps) (take (step_size * steps) (drop (place_size * k + 4) places)) []

-- the same of a list whose last place may be cut off: that gets 10 too, whatever of it is there
unfoldable pub lent_path : List ℕ → ℕ → List ℕ
lent_path places k = cond (leb (place_size * k + place_size) (length places)) (path_in places k) []

-- how many places there are, a cut-off last one included
abbrev pub places_in : List ℕ → ℕ
places_in places = (length places + (place_size - 1)) / place_size

-- the paths in the first n places; of places that were taken, so that none is empty
unfoldable pub lent_paths : List ℕ → ℕ → List Steps
lent_paths places zero = []
lent_paths places (suc n) = lent_paths places n ++ path_of (lent_path places n) ∷ []

-- ---- adds one after another

-- why no more were taken, 0 where all were; how many were taken; and what these left
pub record Batched (S : Type 0) : Type 0 where
  pub number : ℕ
  pub taken : ℕ
  pub left : S

-- one path more, by the number that it gets and by what is left with it: it is taken, or stops the list
abbrev pub tried : {S : Type 0} → (S → List ℕ → ℕ) → (S → List ℕ → S) → Batched S → List ℕ → Batched S
tried refusal after b path =
    let n = refusal b.left path in
    record { number = n; taken = unless_refused n (b.taken + 1) b.taken; left = unless_refused n (after b.left path) b.left }

abbrev pub nothing_tried : {S : Type 0} → ℕ → S → Batched S
nothing_tried n s = record { number = n; taken = 0; left = s }

-- the first k places in turn; nothing is tried behind a path that is refused
unfoldable pub batched : {S : Type 0} → (S → List ℕ → ℕ) → (S → List ℕ → S) → S → List ℕ → ℕ → Batched S
batched refusal after s places zero = nothing_tried 0 s
batched refusal after s places (suc k) =
    let before = batched refusal after s places k in
    unless_refused before.number (tried refusal after before (lent_path places k)) before

-- ---- the call

-- an add behind the test of the form: its number, and what is left where it is taken
unfoldable pub next_number : Machine → List ℕ → ℕ
next_number m path = first_broken (path_rules m.state m.book path)

unfoldable pub with_path : Machine → List ℕ → Machine
with_path m path = record {
  state = state_after m.state m.book m.queue path;
  book = book_after m.state m.book m.queue path;
  queue = queue_with m.state m.queue path;
}

-- 9 for the form, and then nothing is tried; else each place in turn, up to the first that is refused
unfoldable pub batch_of : Machine → List ℕ → Batched Machine
batch_of m places = cond (in_form m.state m.book m.queue) (batched next_number with_path m places (places_in places)) (nothing_tried 9 m)

-- what is told of it
abbrev pub batch_told : Batched Machine → BookAnswer
batch_told b = record { number = b.number; state = Some b.left.state; taken = Some b.taken; book = b.left.book; queue = b.left.queue }

-- what a list of paths answers and leaves
abbrev pub batch_answer : Tracker → List ℕ → List ℕ → List ℕ → BookAnswer
batch_answer t book queue places = batch_told (batch_of (record { state = t; book = book; queue = queue }) places)

-- what the code's answer and the lent book and queue afterwards come to
abbrev pub batched_number : Result Taken Stopped → ℕ
batched_number (Ok t) = 0
batched_number (Err s) = reason_number s.reason

abbrev pub batched_taken : Result Taken Stopped → Taken
batched_taken (Ok t) = t
batched_taken (Err s) = s.taken

abbrev pub batched_answer : Result Taken Stopped → List ℕ → List ℕ → BookAnswer
batched_answer a book queue = record { number = batched_number a; state = Some (batched_taken a).tracker; taken = Some (batched_taken a).paths; book = book; queue = queue }
