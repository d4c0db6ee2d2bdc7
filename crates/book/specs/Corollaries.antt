-- What the claim comes to without the recount (`Corollary` of divergence): W, H and L are read off the calls and what they were answered. The book then
-- tells which transitions and nodes stand in L, and how often in the window part of H; what goes in comes out, a node's counts together being its visits; 12 counts what
-- L and the path list. Then what single calls leave, what a list of paths is, and what the form reads. Assumes nothing.
use Rattle.std.specs.Prelude.{ℕ, suc, ◌+◌, ◌*◌, ◌^◌, ◌<◌, ◌≤◌, ◌≡◌, ◌↔◌, List, [], ◌∷◌, ◌++◌, true, false, cond, leb, length, take}
use Rattle.std.specs.Prelude.{Option, None, Some}
use Rattle.priors.specs.Word.{word}
use Rattle.priors.specs.Rows.{Row, count_of}
use Rattle.priors.specs.Priors.{count_sum}
use Rattle.book.specs.declared.trackers.Tracker.{Tracker}
use Rattle.entries.specs.Limits.{max_accepted, max_count, entry_size, place_size}
use Rattle.entries.specs.Keys.{end_key, child_key}
use Rattle.entries.specs.Entries.{rows, CountsUpTo}
use Rattle.book.specs.Path.{Steps, path_of, step_bytes}
use Rattle.book.specs.Form.{capacity, filled, in_form}
use Rattle.book.specs.Calls.{Machine, BookAnswer, zeros, unless_refused, fresh, open_number, open_book, open_queue, add_number}
use Rattle.book.specs.Batches.{places_in, lent_paths, nothing_tried, batched, next_number, with_path, batch_of}
use Rattle.book.specs.Tidy.{tidy_number}
use Rattle.book.specs.Recount.{occurrences, window_part}
use Rattle.book.specs.Figures.{All, Ranks, Whole, total, transitions, endings, Somewhere}
use Rattle.book.specs.Visits.{visits, evidence_total}
use Rattle.book.specs.Memory.{least}
use Rattle.book.specs.Claims.{BookCall, opening, add, add_paths, tidy, book_step}

-- ---- what was accepted and what lists, told from calls and answers

-- W, H and L: the window of the last accepted opening; the paths accepted since; and those of them that list, which are those that stood in the window at the last tidy
-- and those accepted since, or all of H where no tidy came
pub record Heard : Type 0 where
  pub window : ℕ
  pub paths : List Steps
  pub lists : List Steps

-- before any call
abbrev pub nothing_heard : Heard
nothing_heard = record { window = 0; paths = []; lists = [] }

-- these paths are accepted, and list
abbrev pub heard_more : Heard → List Steps → Heard
heard_more h ps = record { window = h.window; paths = h.paths ++ ps; lists = h.lists ++ ps }

-- as many of the lent places as are told taken
abbrev pub heard_taken : Heard → List ℕ → Option ℕ → Heard
heard_taken h places None = h
heard_taken h places (Some n) = heard_more h (lent_paths places n)

-- after one more call, by its answer; a refused one changes nothing, but for the paths that a list of paths took before
abbrev pub heard_with : Heard → BookCall → BookAnswer → Heard
heard_with h (opening window book queue) a = unless_refused a.number (record { window = window; paths = []; lists = [] }) h
heard_with h (add path) a = unless_refused a.number (heard_more h (path_of path ∷ [])) h
heard_with h (add_paths places) a = heard_taken h places a.taken
heard_with h tidy a = unless_refused a.number (record { window = h.window; paths = h.paths; lists = window_part h.window h.paths }) h

unfoldable pub heard_of : Heard → List BookCall → List BookAnswer → Heard
heard_of h [] answers = h
heard_of h (call ∷ calls) [] = h
heard_of h (call ∷ calls) (answer ∷ answers) = heard_of (heard_with h call answer) calls answers

abbrev pub NoTidy : BookCall → Type 0
NoTidy (opening window book queue) = Unit {0}
NoTidy (add path) = Unit {0}
NoTidy (add_paths places) = Unit {0}
NoTidy tidy = ⊥

-- where all paths list and no tidy comes, all list afterwards
abbrev pub AllListWithoutTidies : Type 0
AllListWithoutTidies =
    (h : Heard) → h.lists ≡ h.paths → (calls : List BookCall) → All NoTidy calls → (answers : List BookAnswer)
    → (heard_of h calls answers).lists ≡ (heard_of h calls answers).paths

-- ---- what the book then tells

-- the used entries
abbrev pub entries_of : Machine → List Row
entries_of m = rows m.book m.state.used

-- a row has the key k
abbrev pub HasRow : ℕ → List Row → Type 0
HasRow k rs = (c : ℕ) × (count_of k rs ≡ Some c)

pub record Told (m : Machine) (W : ℕ) (H L : List Steps) : Type 0 where
  -- a transition is listed exactly when it stood in the window at the last tidy, or in a path accepted since
  pub transition_listed : (node child : ℕ) → child < 2 ^ 64 → HasRow (child_key node child) (entries_of m) ↔ Somewhere (transitions node child) L
  -- its count is its occurrences in the window part
  pub transition_count : (node child : ℕ) → child < 2 ^ 64 → (c : ℕ) → count_of (child_key node child) (entries_of m) ≡ Some c → c ≡ total (transitions node child) (window_part W H)
  -- a node is listed, with its ending, exactly when it stood in the window at the last tidy, or in a path accepted since
  pub node_listed : (node : ℕ) → HasRow (end_key node) (entries_of m) ↔ Somewhere (occurrences node) L
  -- the ending's count is how many paths of the window part end there
  pub ending_count : (node c : ℕ) → count_of (end_key node) (entries_of m) ≡ Some c → c ≡ total (endings node) (window_part W H)
  -- as many entries are used as L has different nodes and different transitions
  pub used_least : m.state.used ≡ least L
  -- after p accepted paths of s steps in all at most 2s - p entries are used
  pub used_le : m.state.used + length H ≤ 2 * total length H
  -- while fewer than 16,777,216 paths are accepted, an add of a whole path gets 12 exactly when L with the path needs more entries than the book has, and else is taken
  pub twelve : (p : Steps) → Whole p → Ranks p → length H < max_accepted → add_number m.state m.book m.queue (step_bytes p) ≡ cond (leb (least (L ++ p ∷ [])) (capacity m.book)) 0 12
  -- a tidy right after a tidy changes nothing, and with a window of 0 none does
  pub tidy_again : (book_step (book_step m tidy).1 tidy).1 ≡ (book_step m tidy).1
  pub tidy_of_all : W ≡ 0 → (book_step m tidy).1 ≡ m
  -- a node's evidence total is its visits, listed or not
  pub total_visits : (node : ℕ) → evidence_total node (entries_of m) ≡ visits W H node
  -- the total is 0 exactly where no path of the window part holds the node
  pub total_none : (node : ℕ) → (evidence_total node (entries_of m) ≡ 0) ↔ (Somewhere (occurrences node) (window_part W H) → ⊥)
  -- a node that is not listed has no visits
  pub unlisted : (node : ℕ) → (HasRow (end_key node) (entries_of m) → ⊥) → visits W H node ≡ 0
  -- all counts together are the steps of the window part
  pub all_counted : count_sum (entries_of m) ≡ total length (window_part W H)

-- ---- single calls, whatever there was before

-- an accepted opening leaves no byte of before
abbrev pub OpeningStartsAfresh : Type 0
OpeningStartsAfresh =
    (m : Machine) (window : ℕ) (book queue : List ℕ) → open_number window book queue ≡ 0
    → (book_step m (opening window book queue)).1 ≡ record { state = fresh window; book = zeros (length book); queue = zeros (length queue) }

-- a refused one leaves all as it was, and so what it was lent
abbrev pub RefusedOpeningLeavesAll : Type 0
RefusedOpeningLeavesAll =
    (m : Machine) (window : ℕ) (book queue : List ℕ) (n : ℕ) → open_number window book queue ≡ suc n
    → ((book_step m (opening window book queue)).1 ≡ m) × (open_book window book queue ≡ book) × (open_queue window book queue ≡ queue)

abbrev pub RefusedAddLeavesAll : Type 0
RefusedAddLeavesAll =
    (m : Machine) (path : List ℕ) (n : ℕ) → add_number m.state m.book m.queue path ≡ suc n
    → (book_step m (add path)).1 ≡ m

abbrev pub RefusedTidyLeavesAll : Type 0
RefusedTidyLeavesAll = (m : Machine) (n : ℕ) → tidy_number m.state m.book m.queue ≡ suc n → (book_step m tidy).1 ≡ m

-- ---- a list of paths, in memory as anybody left it

-- out of form it changes nothing
abbrev pub UnformedBatchLeavesAll : Type 0
UnformedBatchLeavesAll = (m : Machine) (places : List ℕ) → in_form m.state m.book m.queue ≡ false → batch_of m places ≡ nothing_tried 9 m

-- in form it leaves what the places that it took leave by themselves
abbrev pub BatchKeepsWhatItTook : Type 0
BatchKeepsWhatItTook =
    (m : Machine) (places : List ℕ) → in_form m.state m.book m.queue ≡ true
    → let b = batch_of m places in batched next_number with_path m places b.taken ≡ record { number = 0; taken = b.taken; left = b.left }

-- of the form it leaves all but the counts' bound
abbrev pub BatchKeepsForm : Type 0
BatchKeepsForm =
    (m : Machine) (places : List ℕ) → All (λ b. b < 256) m.book → All (λ b. b < 256) places → in_form m.state m.book m.queue ≡ true
    → let left = (batch_of m places).left in CountsUpTo max_count (entries_of left) → in_form left.state left.book left.queue ≡ true

-- the number of a whole single add, with its test of the form
abbrev pub single_number : Machine → List ℕ → ℕ
single_number m path = add_number m.state m.book m.queue path

-- in form, and where before each place no count has passed 2 ^ 30, it is whole single adds, one after another up to the first that is refused
abbrev pub BatchIsSingleAdds : Type 0
BatchIsSingleAdds =
    (m : Machine) (places : List ℕ) → All (λ b. b < 256) m.book → All (λ b. b < 256) places → in_form m.state m.book m.queue ≡ true
    → ((k : ℕ) → k < places_in places → CountsUpTo max_count (entries_of (batched next_number with_path m places k).left))
    → batch_of m places ≡ batched single_number (λ s path. (book_step s (add path)).1) m places (places_in places)

-- ---- the form

-- it depends on the sizes, the used entries' bytes and the filled places' lengths, and on no other byte
abbrev pub FormReadsNoOther : Type 0
FormReadsNoOther =
    (t : Tracker) (book book' queue queue' : List ℕ) → length book ≡ length book' → length queue ≡ length queue'
    → take (entry_size * t.used) book ≡ take (entry_size * t.used) book'
    → ((place : ℕ) → place < filled t → word queue (place_size * place) ≡ word queue' (place_size * place))
    → in_form t book queue ≡ in_form t book' queue'
