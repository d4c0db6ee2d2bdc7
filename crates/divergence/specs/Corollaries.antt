-- What the claim comes to without the recount: W, H and L (`Heard` of book) are read off the changes and their answers; the book tells what stands in
-- L and how often in the window part of H, a reading answers by these and what it is lent, and the evidence total of a node is its visits; readings leave no trace; 9
-- never comes from the list's own tracker, and a tidy is never refused; and what the paths need is the least number of entries that serves. And from the definitions
-- alone: no reading reads index 0 of a table. Assumes nothing.
use Rattle.std.specs.Prelude.{◌≡◌, ℕ, ◌*◌, ◌<◌, ◌≤◌, List, [], ◌∷◌, ◌++◌, length, ◌≢◌, Float}
use mathlib.Core.List.{Permᴰ}
use Rattle.std.specs.Prelude.{None, Some, option_map}
use Rattle.priors.specs.Tables.{lent_tables}
use Rattle.priors.specs.Priors.{LentPriors, total}
use Rattle.entries.specs.Keys.{end_key}
use Rattle.book.specs.Path.{Steps}
use Rattle.book.specs.Calls.{Machine, BookAnswer, open_number}
use Rattle.book.specs.Figures.{All, AllWhole, AllRanks}
use Rattle.book.specs.Visits.{visits}
use Rattle.book.specs.Memory.{least, adds, numbers, AllTaken, SomeTwelve}
use Rattle.book.specs.Claims.{BookCall, opening, add, add_paths, tidy, book_step, runs}
use Rattle.book.specs.Corollaries.{nothing_heard, heard_of, entries_of, HasRow, Told}
use Rattle.divergence.specs.Nodes.{evidence_of}
use Rattle.divergence.specs.Readings.{Reading, refused, nothing, answered, nodes_of}
use Rattle.divergence.specs.Asked.{Seen, Output, kl_asked, all_asked, stats_asked}
use Rattle.divergence.specs.Claims.{ReadingCall, Call, change, read, Answer, changed, told, reading, step, recount_seen, IsOpening, InBytes}

-- ---- readings leave no trace

-- the changes among the calls, and the answers to them
unfoldable pub changes_of : List Call → List BookCall
changes_of [] = []
changes_of (change call ∷ calls) = call ∷ changes_of calls
changes_of (read call ∷ calls) = changes_of calls

unfoldable pub changed_answers : List Answer → List BookAnswer
changed_answers [] = []
changed_answers (changed answer ∷ answers) = answer ∷ changed_answers answers
changed_answers (told result outputs ∷ answers) = changed_answers answers

-- without its readings a list of calls has the same answers to the others, and leaves the same
abbrev pub WithoutReadings : Type 0
WithoutReadings =
    (m : Machine) (calls : List Call)
    → (changed_answers (runs step m calls).0 ≡ (runs book_step m (changes_of calls)).0) × ((runs step m calls).1 ≡ (runs book_step m (changes_of calls)).1)

-- ---- 9

-- an answer's refusal; 0 for none
abbrev pub reading_number : {X : Type 0} → Reading X → ℕ
reading_number (refused n at) = n
reading_number nothing = 0
reading_number (answered x) = 0

abbrev pub answer_number : Answer → ℕ
answer_number (changed answer) = answer.number
answer_number (told result outputs) = reading_number result

-- 9 where a tracker that a reading is lent beside the list's own is out of form, else 0; no reading is lent one yet
abbrev pub other_form : ReadingCall → ℕ
other_form call = 0

-- 9 never comes from the list's own tracker: no add and no list of paths is answered 9, no tidy is refused, and no reading is answered 9 but by another tracker that it is lent
abbrev pub NeverNine : List Call → List Answer → Type 0
NeverNine [] answers = Unit {0}
NeverNine (call ∷ calls) [] = Unit {0}
NeverNine (change (opening window book queue) ∷ calls) (answer ∷ answers) = NeverNine calls answers
NeverNine (change (add path) ∷ calls) (answer ∷ answers) = (answer_number answer ≢ 9) × NeverNine calls answers
NeverNine (change (add_paths places) ∷ calls) (answer ∷ answers) = (answer_number answer ≢ 9) × NeverNine calls answers
NeverNine (change tidy ∷ calls) (answer ∷ answers) = (answer_number answer ≡ 0) × NeverNine calls answers
NeverNine (read call ∷ calls) (answer ∷ answers) = (answer_number answer ≡ 9 → other_form call ≡ 9) × NeverNine calls answers

-- ---- memory quoted to the entry

-- the changes among the calls are an opening in a book of n entries and then an add of each path of P, and no other; readings may stand anywhere. The window is any up to
-- 1,024 that the queue serves, and what book and queue hold is any. The limits are written out, as in the claim
pub record Adds (n : ℕ) (P : List Steps) (calls : List Call) : Type 0 where
  pub window : ℕ
  pub book : List ℕ
  pub queue : List ℕ
  pub window_le : window ≤ 1024
  pub queue_serves : 516 * window ≤ length queue
  pub book_length : length book ≡ 24 * n
  pub changes : changes_of calls ≡ opening window book queue ∷ adds P

-- the numbers that they are answered
abbrev pub numbers_of : Machine → List Call → List ℕ
numbers_of m calls = numbers (changed_answers (runs step m calls).0)

-- the different nodes plus the different transitions of P are the least number of entries that serves. It is an entry or more where P has a path or more. Whatever the
-- order of P and whatever there was before: in a book of that many or more, up to 16,384, every add is taken, and that many are then used; in a smaller one of an entry
-- or more some add is answered 12, and each that is not is taken
abbrev pub LeastServes : List Steps → Type 0
LeastServes P =
    (1 ≤ length P → 1 ≤ least P)
    × ((P' : List Steps) → Permᴰ P P' → (n : ℕ) → 1 ≤ n → n ≤ 16384 → (m : Machine) (calls : List Call) → Adds n P' calls
    → (least P ≤ n → AllTaken (numbers_of m calls) × ((runs step m calls).1.state.used ≡ least P)) × (n < least P → SomeTwelve (numbers_of m calls)))

-- so it is with any paths within the limits, whether or not they were ever added
abbrev pub MemoryToTheEntry : Type 0
MemoryToTheEntry = (P : List Steps) → AllWhole P → AllRanks P → length P ≤ 16777216 → LeastServes P

-- ---- what book and readings tell

-- of the evidence that readings go by: a listed node has some, and its total is the node's visits; a node that is not listed has none
abbrev pub TotalsAreVisits : Machine → ℕ → List Steps → Type 0
TotalsAreVisits m W H =
    (node : ℕ)
    → (HasRow (end_key node) (entries_of m) → option_map total (evidence_of node (nodes_of m.state m.book)) ≡ Some (visits W H node))
    × ((HasRow (end_key node) (entries_of m) → ⊥) → evidence_of node (nodes_of m.state m.book) ≡ None)

-- whatever there was before: after any openings, one that is accepted and any calls, the book tells what the paths that list hold, in totals that are visits, and a
-- reading answers by these, by the paths accepted since the last accepted opening and by that opening's window; what the paths that list need is at most 16,384; and what
-- the accepted ones need is the least number of entries that serves adds of them without a tidy
abbrev pub Corollary : Type 0
Corollary =
    (m : Machine) (first : List Call) → All IsOpening first
    → (window : ℕ) (book queue : List ℕ) → open_number window book queue ≡ 0
    → (calls : List Call) → All InBytes calls
    → let all = first ++ change (opening window book queue) ∷ calls in
    let ran = runs step m all in
    let heard = heard_of nothing_heard (changes_of all) (changed_answers ran.0) in
    let W = heard.window in
    let H = heard.paths in
    let L = heard.lists in
    Told ran.1 W H L × TotalsAreVisits ran.1 W H × ((call : ReadingCall) → (step ran.1 (read call)).0 ≡ reading (recount_seen W H L) call) × NeverNine all ran.0
    × (least L ≤ 16384) × LeastServes H

-- ---- index 0 of the tables

-- what is made of two tables stays the same whatever stands at index 0 of either
abbrev pub ZeroUnread : {X : Type 0} → (List Float → List Float → X) → Type 0
ZeroUnread made = (g g' d d' : Float) (G D : List Float) → made (g ∷ G) (d ∷ D) ≡ made (g' ∷ G) (d' ∷ D)

-- so does what each reading that is lent the tables tells, whatever else it sees and is lent
abbrev pub IndexZeroUnread : Type 0
IndexZeroUnread =
    (s : Seen) (p : LentPriors) (rank : ℕ) (o : Output)
    → ZeroUnread (λ G D. kl_asked s (lent_tables G D) p rank)
    × ZeroUnread (λ G D. all_asked s (lent_tables G D) p o)
    × ZeroUnread (λ G D. stats_asked s (lent_tables G D) p)
