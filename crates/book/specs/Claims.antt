-- Openings, adds, lists of paths and tidies as calls of a list: a machine of state, book bytes and queue bytes that is changed call by call as the functions' contracts
-- say (`Calls`, `Batches`, `Tidy`), and a recount that keeps W, H, one number for tidies and two lengths and answers from the papers' tables alone. `image` says which
-- machine a recount stands for. The claim over every list of calls (`Claims` of divergence) puts the readings beside these. Assumes nothing.
use Rattle.std.specs.Prelude.{ℕ, ◌*◌, ◌/◌, ◌%◌, ◌<◌, ◌&&◌, List, [], ◌∷◌, ◌++◌, ltb, leb, eqb, length, drop}
use Rattle.std.specs.Prelude.{Option, None, Some}
use Rattle.priors.specs.Rules.{rule, first_broken}
use Rattle.book.specs.declared.trackers.Tracker.{Tracker}
use Rattle.book.specs.Path.{Steps, path_of}
use Rattle.book.specs.Calls.{Machine, BookAnswer, unless_refused, open_answer, add_answer}
use Rattle.book.specs.Batches.{places_in, batched, batch_told, batch_answer}
use Rattle.book.specs.Tidy.{tidy_answer}
use Rattle.book.specs.Recount.{before_window, listing, book_image, queue_image}
use Rattle.book.specs.Figures.{All}

-- ---- calls

-- an opening is lent a book and a queue of its own, whatever they hold; the others are lent what the calls since the last accepted opening left
pub data BookCall : Type 0 where
  opening : (window : ℕ) (book queue : List ℕ) → BookCall
  add : (path : List ℕ) → BookCall
  add_paths : (places : List ℕ) → BookCall
  tidy : BookCall

-- the answers to calls of any kind, one after another, and what the last one leaves
unfoldable pub runs : {Call Answer State : Type 0} → (State → Call → Answer × State) → State → List Call → List Answer × State
runs step s [] = ([], s)
runs step s (c ∷ cs) = let rest = runs step (step s c).1 cs in ((step s c).0 ∷ rest.0, rest.1)

-- ---- the machine

-- a state that comes back, with the book and the queue that were lent for it; where none comes back, what there was
abbrev pub reopened : Option Tracker → List ℕ → List ℕ → Machine → Machine
reopened None book queue m = m
reopened (Some t) book queue m = record { state = t; book = book; queue = queue }

-- the machine after a call that gave this answer
abbrev pub left_by : BookAnswer → Machine → Machine
left_by a m = reopened a.state a.book a.queue m

-- what a call answers and leaves is what its function's contract says
unfoldable pub book_step : Machine → BookCall → BookAnswer × Machine
book_step m (opening window book queue) = let a = open_answer window book queue in (a, left_by a m)
book_step m (add path) = let a = add_answer m.state m.book m.queue path in (a, left_by a m)
book_step m (add_paths places) = let a = batch_answer m.state m.book m.queue places in (a, left_by a m)
book_step m tidy = let a = tidy_answer m.state m.book m.queue in (a, left_by a m)

-- ---- the recount

-- base is the number of paths of H that lay before the window part at the last tidy, 0 from an accepted opening on
pub record Recount : Type 0 where
  pub window : ℕ
  pub paths : List Steps
  pub base : ℕ
  pub book_size : ℕ
  pub queue_size : ℕ

-- the paths that list: those that stood in the window at the last tidy, and those accepted since; all of H where no tidy came
abbrev pub since : Recount → List Steps
since r = drop r.base r.paths

-- the numbers are those of the table 'Where each call is turned back', written out here once more, so that the claim is a check of the limits too,
-- but for the reading of lent places (`lent_path`), which both sides share.
-- An opening gets 8 for a window over 1,024; 9 for a book that is empty, no multiple of 24 bytes or over 16,384 entries, and for a queue under 516 bytes a place
unfoldable pub open_refusal : ℕ → ℕ → ℕ → ℕ
open_refusal window book_size queue_size =
    first_broken
    (rule 8 (leb window 1024)
    ∷ rule 9 ((leb 24 book_size && (eqb (book_size % 24) 0 && leb book_size (24 * 16384))) && leb (516 * window) queue_size)
    ∷ [])

-- an add gets 10 for a path that is not 1 to 64 steps of 8 bytes, 11 if H has 16,777,216 paths, 12 if more is listed with its path than the book has entries;
-- never 9. A tidy gets no number
unfoldable pub add_refusal : Recount → List ℕ → ℕ
add_refusal r path =
    first_broken
    (rule 10 (leb 8 (length path) && (leb (length path) 512 && eqb (length path % 8) 0))
    ∷ rule 11 (ltb (length r.paths) 16777216)
    ∷ rule 12 (leb (length (listing (since r ++ path_of path ∷ []))) (r.book_size / 24))
    ∷ [])

-- an accepted opening: its window, no paths
abbrev pub restarted : ℕ → ℕ → ℕ → Recount
restarted window book_size queue_size = record { window = window; paths = []; base = 0; book_size = book_size; queue_size = queue_size }

-- an accepted add: its path joins H last
abbrev pub joined : Recount → Steps → Recount
joined r p = record { window = r.window; paths = r.paths ++ p ∷ []; base = r.base; book_size = r.book_size; queue_size = r.queue_size }

-- the same of a lent path; a list of paths is such adds, one after another up to the first that is refused
abbrev pub joined_by : Recount → List ℕ → Recount
joined_by r path = joined r (path_of path)

-- a tidy: only the window part lists from there on; W and H stay
abbrev pub tidied : Recount → Recount
tidied r = record { window = r.window; paths = r.paths; base = before_window r.window r.paths; book_size = r.book_size; queue_size = r.queue_size }

-- the state: the window, how many nodes and transitions are listed, how many paths there are
abbrev pub state_image : Recount → Tracker
state_image r = record { window = r.window; used = length (listing (since r)); accepted = length r.paths }

-- what a recount stands for: the state, and every byte of book and queue
unfoldable pub image : Recount → Machine
image r = record {
  state = state_image r;
  book = book_image r.window r.paths (since r) r.book_size;
  queue = queue_image r.window r.paths r.queue_size;
}

-- a refused call changes neither W nor H nor base, nor what it is lent, but a list of paths keeps what it took before; a refused opening gives no state
unfoldable pub recount_step : Recount → BookCall → BookAnswer × Recount
recount_step r (opening window book queue) =
    let n = open_refusal window (length book) (length queue) in
    let fresh = restarted window (length book) (length queue) in (
      record {
        number = n;
        state = unless_refused n (Some (image fresh).state) None;
        taken = None;
        book = unless_refused n (image fresh).book book;
        queue = unless_refused n (image fresh).queue queue;
      },
      unless_refused n fresh r,
    )
recount_step r (add path) =
    let n = add_refusal r path in
    let after = unless_refused n (joined r (path_of path)) r in
    (record { number = n; state = Some (image after).state; taken = None; book = (image after).book; queue = (image after).queue }, after)
recount_step r (add_paths places) =
    let b = batched add_refusal joined_by r places (places_in places) in
    (batch_told (record { number = b.number; taken = b.taken; left = image b.left }), b.left)
recount_step r tidy =
    let after = tidied r in
    (record { number = 0; state = Some (image after).state; taken = None; book = (image after).book; queue = (image after).queue }, after)

-- ---- lists of calls

abbrev pub IsOpening : BookCall → Type 0
IsOpening (opening window book queue) = Unit {0}
IsOpening (add path) = ⊥
IsOpening (add_paths places) = ⊥
IsOpening tidy = ⊥

-- an add's path and the places of a list of paths are bytes, each below 256; what an opening is lent may hold anything
abbrev pub InBytes : BookCall → Type 0
InBytes (opening window book queue) = Unit {0}
InBytes (add path) = All (λ b. b < 256) path
InBytes (add_paths places) = All (λ b. b < 256) places
InBytes tidy = Unit {0}
