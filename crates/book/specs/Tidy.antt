-- What a tidy keeps of a book's rows, what it answers, and what it leaves in the lent book; the queue is lent for its form alone. Only counts decide, also in memory
-- altered by others. Assumes nothing.
use Rattle.std.specs.Prelude.{ℕ, List, [], ◌∷◌, Bool, cond, ltb, eqb, length}
use Rattle.std.specs.Prelude.{None, Some}
use Rattle.priors.specs.Rows.{Row}
use Rattle.priors.specs.Rules.{rule, first_broken}
use Rattle.book.specs.declared.trackers.Tracker.{Tracker}
use Rattle.entries.specs.Keys.{node_of, kind_of}
use Rattle.entries.specs.Entries.{rows}
use Rattle.book.specs.Form.{in_form}
use Rattle.book.specs.Calls.{BookAnswer, book_of, unless_refused}
use Rattle.book.specs.Visits.{evidence_total}

-- ---- what stays

-- the rows that pass a test
unfoldable pub keep_where : (Row → Bool) → List Row → List Row
keep_where test [] = []
keep_where test (r ∷ rs) = cond (test r) (r ∷ keep_where test rs) (keep_where test rs)

-- of all rows: a child stays if its count is not 0, an ending if its node's ending and children are not all 0
unfoldable pub stays : List Row → Row → Bool
stays all r = cond (eqb (kind_of r.key) 0) (ltb 0 (evidence_total (node_of r.key) all)) (ltb 0 r.count)

unfoldable pub kept : List Row → List Row
kept rs = keep_where (stays rs) rs

-- ---- the call

unfoldable pub tidy_number : Tracker → List ℕ → List ℕ → ℕ
tidy_number t book queue = first_broken (rule 9 (in_form t book queue) ∷ [])

-- the rows afterwards
abbrev pub rows_tidied : Tracker → List ℕ → List Row
rows_tidied t book = kept (rows book t.used)

-- the state with these entries used
unfoldable pub state_tidied : Tracker → List ℕ → Tracker
state_tidied t book = record { window = t.window; used = length (rows_tidied t book); accepted = t.accepted }

unfoldable pub tidy_state : Tracker → List ℕ → List ℕ → Tracker
tidy_state t book queue = unless_refused (tidy_number t book queue) (state_tidied t book) t

-- the lent book afterwards: the kept entries, and zeros to its end
unfoldable pub tidy_book : Tracker → List ℕ → List ℕ → List ℕ
tidy_book t book queue = unless_refused (tidy_number t book queue) (book_of (rows_tidied t book) (length book)) book

-- what a tidy answers and leaves
abbrev pub tidy_answer : Tracker → List ℕ → List ℕ → BookAnswer
tidy_answer t book queue = record {
  number = tidy_number t book queue;
  state = Some (tidy_state t book queue);
  taken = None;
  book = tidy_book t book queue;
  queue = queue;
}
