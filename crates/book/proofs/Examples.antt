-- The definitions at work on the kit's rows, by computation: the nodes are (1,7) and (0,9), the window is 1. Assumes nothing.
use mathlib.Core.Path.{◌≡◌, refl}
use Prim.Native.Nat.{ℕ}
use mathlib.Core.List.{List, [], ◌∷◌, ◌++◌, map, flat_map}
use Rattle.std.specs.Prelude.{Some}
use lib.ListN.{replicate}
use Rattle.priors.specs.Word.{word, store}
use Rattle.priors.specs.Address.{lift, rank}
use Rattle.priors.specs.Rows.{row, change}
use Rattle.entries.specs.Keys.{key_of, end_key, child_key, node_of, kind_of, child_of}
use Rattle.entries.specs.Entries.{key_at, row_at, rows, row_bytes, bytes_of}
use Rattle.book.specs.Path.{Steps, steps_of, whole_path, listed_keys, counted_keys}
use Rattle.book.specs.Form.{book_fits, queue_fits, plain, follows, formed_after, formed, lengths_fit, state_fits, in_form}
use Rattle.book.specs.Changes.{change_all, add_rows}
use Rattle.book.specs.Calls.{Machine, book_of, fresh, open_number, open_state, open_book, open_queue, leaving, add_number, rows_after, add_state, state_after, add_book, book_after, place_bytes, queue_with, add_queue}
use Rattle.book.specs.Batches.{path_in, lent_path, places_in, batched}
use Rattle.book.specs.Tidy.{keep_where, stays, kept, tidy_number, state_tidied, tidy_state, tidy_book}
use Rattle.book.specs.Recount.{window_part, sequence_length, before_window, enter, enter_all, listing}
use Rattle.book.specs.Figures.{total}
use Rattle.book.specs.Visits.{arrivals, beginnings, visits, evidence_total}
use Rattle.book.specs.Memory.{among, different, pairs, least, numbers}
use Rattle.book.specs.Claims.{BookCall, opening, add, add_paths, tidy, runs, book_step, recount_step, open_refusal, add_refusal, restarted}
use Rattle.book.specs.Corollaries.{nothing_heard, heard_of, entries_of}

abbrev high : List ℕ
high = 1 ∷ 0 ∷ 0 ∷ 0 ∷ 7 ∷ 0 ∷ 0 ∷ 0 ∷ []

abbrev low : List ℕ
low = 0 ∷ 0 ∷ 0 ∷ 0 ∷ 9 ∷ 0 ∷ 0 ∷ 0 ∷ []

-- a book of two entries is too small for the path (1,7), (0,9), one of three is not; a path of no steps, a window over 1,024 and a short queue are refused
abbrev calls : List BookCall
calls =
    opening 1 (replicate 48 5) (replicate 516 5)
    ∷ add (high ++ low)
    ∷ opening 1 (replicate 72 5) (replicate 516 5)
    ∷ add (high ++ low)
    ∷ add high
    ∷ add []
    ∷ opening 1025 [] []
    ∷ opening 1 (replicate 72 5) (replicate 515 5)
    ∷ []

recount_numbers : numbers (runs recount_step (restarted 0 0 0) calls).0 ≡ 0 ∷ 12 ∷ 0 ∷ 0 ∷ 0 ∷ 10 ∷ 8 ∷ 9 ∷ []
unfolding runs recount_step open_refusal add_refusal listing enter_all enter flat_map listed_keys steps_of word rank lift end_key child_key key_of
recount_numbers = refl

-- the functions' own definitions answer so too, whatever there was
before : Machine
before = record { state = fresh 3; book = []; queue = [] }

book_numbers : numbers (runs book_step before calls).0 ≡ 0 ∷ 12 ∷ 0 ∷ 0 ∷ 0 ∷ 10 ∷ 8 ∷ 9 ∷ []
unfolding before runs book_step open_number open_state open_book open_queue add_number add_state state_after add_book book_after add_queue rows_after leaving queue_with place_bytes in_form state_fits queue_fits book_fits formed formed_after follows plain lengths_fit rows row_at key_at bytes_of row_bytes node_of kind_of child_of store whole_path change_all change add_rows listed_keys counted_keys steps_of word rank lift end_key child_key key_of
book_numbers = refl

-- then the ending of (1,7) counts 1, and what only the path that left had counted stays with 0
entries_left : entries_of (runs book_step before calls).1 ≡ row (end_key (rank 0 9)) 0 ∷ row (end_key (rank 1 7)) 1 ∷ row (child_key (rank 1 7) (rank 0 9)) 0 ∷ []
unfolding before runs book_step open_number open_state open_book open_queue add_number add_state state_after add_book book_after add_queue rows_after leaving queue_with place_bytes in_form state_fits queue_fits book_fits formed formed_after follows plain lengths_fit rows row_at key_at bytes_of row_bytes node_of kind_of child_of store whole_path change_all change add_rows listed_keys counted_keys steps_of word rank lift end_key child_key key_of
entries_left = refl

-- the paths that were taken; with a window of 1 the last one counts, where (1,7) begins, with a window of 0 both do
abbrev taken : List Steps
taken = (rank 1 7 ∷ rank 0 9 ∷ []) ∷ (rank 1 7 ∷ []) ∷ []

taken_are : (heard_of nothing_heard calls (runs recount_step (restarted 0 0 0) calls).0).paths ≡ taken
unfolding heard_of runs recount_step open_refusal add_refusal listing enter_all enter flat_map listed_keys steps_of word rank lift end_key child_key key_of
taken_are = refl

visits_left : map (visits 1 taken) (rank 1 7 ∷ rank 0 9 ∷ []) ≡ 1 ∷ 0 ∷ []
unfolding visits arrivals beginnings total window_part rank lift
visits_left = refl

visits_all : map (visits 0 taken) (rank 1 7 ∷ rank 0 9 ∷ []) ≡ 2 ∷ 1 ∷ []
unfolding visits arrivals beginnings total window_part rank lift
visits_all = refl

-- a node that is come to again is visited again, from itself too
visits_again : visits 0 ((1 ∷ 1 ∷ 2 ∷ 1 ∷ []) ∷ []) 1 ≡ 3
unfolding visits arrivals beginnings total window_part
visits_again = refl

totals_left : map (λ a. evidence_total a (entries_of (runs book_step before calls).1)) (rank 1 7 ∷ rank 0 9 ∷ []) ≡ 1 ∷ 0 ∷ []
unfolding evidence_total node_of end_key child_key key_of rank lift
totals_left = rw entries_left

-- two nodes and the transition between them; there and back are two transitions, and from a node to itself is one, however often
least_taken : least taken ≡ 3
unfolding least different among pairs flat_map rank lift
least_taken = refl

least_back : least ((1 ∷ 2 ∷ 1 ∷ []) ∷ (2 ∷ 1 ∷ []) ∷ []) ≡ 4
unfolding least different among pairs flat_map
least_back = refl

least_itself : least ((1 ∷ 1 ∷ 1 ∷ []) ∷ (1 ∷ []) ∷ []) ≡ 2
unfolding least different among pairs flat_map
least_itself = refl

-- ---- tidies

-- the book is full of what has left the window: a path that brings one entry gets 12, is taken after a tidy, and alone is left after another
abbrev other : List ℕ
other = 5 ∷ 0 ∷ 0 ∷ 0 ∷ 5 ∷ 0 ∷ 0 ∷ 0 ∷ []

abbrev more : List BookCall
more = add other ∷ tidy ∷ add other ∷ tidy ∷ []

tidied_numbers : numbers (runs recount_step (runs recount_step (restarted 0 0 0) calls).1 more).0 ≡ 12 ∷ 0 ∷ 0 ∷ 0 ∷ []
unfolding runs recount_step open_refusal add_refusal before_window sequence_length window_part listing enter_all enter flat_map listed_keys steps_of word rank lift end_key child_key key_of
tidied_numbers = refl

after : Machine
unfolding before
after = (runs book_step (runs book_step before calls).1 more).1

entries_tidied : entries_of after ≡ row (end_key (rank 5 5)) 1 ∷ []
unfolding after before runs book_step open_number open_state open_book open_queue add_number add_state state_after add_book book_after add_queue rows_after leaving queue_with place_bytes tidy_number tidy_state state_tidied tidy_book book_of kept keep_where stays evidence_total in_form state_fits queue_fits book_fits formed formed_after follows plain lengths_fit rows row_at key_at bytes_of row_bytes node_of kind_of child_of store whole_path change_all change add_rows listed_keys counted_keys steps_of word rank lift end_key child_key key_of
entries_tidied = refl

-- then only the path of the window part lists
lists_left : (heard_of nothing_heard (calls ++ more) (runs recount_step (restarted 0 0 0) (calls ++ more)).0).lists ≡ (rank 5 5 ∷ []) ∷ []
unfolding heard_of runs recount_step open_refusal add_refusal before_window sequence_length window_part listing enter_all enter flat_map listed_keys steps_of word rank lift end_key child_key key_of
lists_left = refl

-- an ending of 0 stays where a child of its node counts, though another's child names a node that goes
tidied_rows : kept (row (end_key 1) 0 ∷ row (child_key 1 2) 1 ∷ row (child_key 1 3) 0 ∷ row (end_key 2) 0 ∷ []) ≡ row (end_key 1) 0 ∷ row (child_key 1 2) 1 ∷ []
unfolding kept keep_where stays evidence_total node_of kind_of end_key child_key key_of rank lift
tidied_rows = refl

-- a lent place has a length, steps, and bytes that are not read. A length over 64 and a cut-off place hold no path, whatever of it is there
abbrev place : ℕ → List ℕ → List ℕ
place n step = n ∷ 0 ∷ 0 ∷ 0 ∷ step ++ replicate 504 5

abbrev lent : List ℕ
lent = place 1 high ++ place 65 low ++ place 1 low ++ 1 ∷ 0 ∷ 0 ∷ 0 ∷ high

lent_are : map (lent_path lent) (0 ∷ 1 ∷ 2 ∷ 3 ∷ []) ≡ high ∷ [] ∷ low ∷ [] ∷ []
unfolding lent_path path_in word
lent_are = refl

places_are : map (λ n. places_in (replicate n 0)) (0 ∷ 1 ∷ 515 ∷ 516 ∷ 517 ∷ []) ≡ 0 ∷ 1 ∷ 1 ∷ 1 ∷ 2 ∷ []
places_are = refl

-- in a book of one entry the first of three paths is taken; the second has no room, and the third, which has, is not tried
stopped_is : let a = (recount_step (restarted 0 24 0) (add_paths (place 1 high ++ place 1 low ++ place 1 high))).0 in (a.number ≡ 12) × (a.taken ≡ Some 1)
unfolding recount_step batched lent_path path_in add_refusal listing enter_all enter flat_map listed_keys steps_of word rank lift end_key child_key key_of
stopped_is = (refl, refl)
