-- The answer of an add by its number: what a refused call leaves and what one that is taken does; and what the form hands to an add. Assumes nothing.
use mathlib.Core.Path.{◌≡◌, refl, sym, ap, ap₂, ◌∙◌}
use mathlib.Core.Logic.{◌⊎◌, inl, inr}
use Prim.Native.Nat.{ℕ, suc, ◌+◌, ◌*◌, ◌/◌, ◌%◌, ◌≤◌, ◌<◌}
use native.Mathlib.Nat.{mod-lt}
use native.Mathlib.Omega.{arith}
use mathlib.Core.List.{List, ◌++◌}
use Rattle.std.specs.Prelude.{None, Some}
use mathlib.Core.Bool.{Bool, true, false, cond, ◌&&◌}
use lib.Dec.{leb, eqb}
use lib.ListN.{length, take, drop, length-take, length-drop}
use borrow.Author.Tests.{leb-true, le-leb, lt-leb}
use Rattle.priors.specs.Word.{word, store}
use Rattle.std.specs.Prelude.{if◌then◌else◌}
use Rattle.priors.specs.declared.refusals.Reason.{Reason}
use Rattle.priors.specs.Refusals.{reason_number}
use Rattle.priors.proofs.RuleLaws.{reason_some}
use Rattle.priors.specs.Rows.{Row, keys, Ascends}
use Rattle.priors.proofs.BelowLaws.{first_true, second_true}
use Rattle.priors.proofs.Ranks.{Bytes}
use Rattle.book.specs.declared.trackers.Tracker.{Tracker}
use Rattle.entries.specs.Limits.{max_window, max_accepted, max_count}
use Rattle.entries.specs.Entries.{rows, bytes_of, Rewritten, CountsUpTo}
use Rattle.book.specs.Path.{listed_keys, counted_keys, path_of}
use Rattle.book.specs.Form.{capacity, book_fits, queue_fits, state_fits, formed, lengths_fit, filled, in_form}
use Rattle.book.specs.Changes.{change_all, touch_all, bump_all, fade_all, left_keys, add_rows, EndingsListed}
use Rattle.book.specs.Calls.{add_number, add_state, add_book, add_queue, add_answer, book_after, queue_with, listed_rows, leaving, next_place, steps_at, place_bytes, rows_after}
use Rattle.book.specs.Adding.{Leaves, Ready}
use Rattle.entries.proofs.EntryLaws.{length_rows, length_bytes_of, rows_forth}
use Rattle.book.proofs.ManyRows.{ascends_all}
use Rattle.book.proofs.Lengths.{length_half}
use Rattle.book.proofs.FormLaws.{formed_ascends, formed_counts, lengths_at}
use Rattle.book.proofs.EndingLaws.{formed_endings}
use Rattle.book.proofs.StepLaws.{part_steps}

-- ---- an add

module _ (t : Tracker) (book queue path : List ℕ) where
  pub add_refused : (n : ℕ) → add_number t book queue path ≡ suc n
      → record { number = suc n; state = Some t; taken = None; book = book; queue = queue } ≡ add_answer t book queue path
  unfolding add_state add_book add_queue
  add_refused n e = rw e

  pub out_of_form : in_form t book queue ≡ false → add_number t book queue path ≡ 9
  unfolding add_number
  out_of_form e = rw e

-- ---- what a check's number tells

pub passes : (b : Bool) (n : ℕ) → 0 ≡ (if b then 0 else suc n) → b ≡ true
passes true n e = refl
passes false n e = absurd (omega arith)

pub fails : (b : Bool) (n : ℕ) (r : Reason) → reason_number r ≡ (if b then 0 else n) → (b ≡ false) × (reason_number r ≡ n)
fails true n r e = let some = reason_some r in absurd (omega (arith, some.1))
fails false n r e = (refl, e)

-- ---- what the form tells

module _ (t : Tracker) (book : List ℕ) (fits : state_fits t book ≡ true) where
  later : Bool
  later = leb t.used (capacity book) && leb t.accepted max_accepted

  pub used_fits : 24 * t.used ≤ length book
  unfolding state_fits later
  used_fits =
      let l : t.used ≤ length book / 24 = leb-true t.used (capacity book) (first_true (leb t.used (capacity book)) (leb t.accepted max_accepted) (second_true (leb t.window max_window) later fits)) in
      omega arith

pub places_fit : (window : ℕ) (queue : List ℕ) → queue_fits window queue ≡ true → 516 * window ≤ length queue
unfolding queue_fits
places_fit window queue h = leb-true (516 * window) (length queue) h

module _ (t : Tracker) (book queue : List ℕ) (form : in_form t book queue ≡ true) where
  rest_state : Bool
  rest_state = state_fits t book && (queue_fits t.window queue && (formed (rows book t.used) && lengths_fit queue (filled t)))

  rest_queue : Bool
  rest_queue = queue_fits t.window queue && (formed (rows book t.used) && lengths_fit queue (filled t))

  rest_formed : Bool
  rest_formed = formed (rows book t.used) && lengths_fit queue (filled t)

  pub form_book : book_fits book ≡ true
  unfolding in_form rest_state
  form_book = first_true (book_fits book) rest_state form

  after_book : rest_state ≡ true
  unfolding in_form rest_state
  after_book = second_true (book_fits book) rest_state form

  after_state : rest_queue ≡ true
  unfolding rest_state rest_queue
  after_state = second_true (state_fits t book) rest_queue after_book

  after_queue : rest_formed ≡ true
  unfolding rest_queue rest_formed
  after_queue = second_true (queue_fits t.window queue) rest_formed after_state

  pub form_used : 24 * t.used ≤ length book
  unfolding rest_state rest_queue
  form_used = used_fits t book (first_true (state_fits t book) rest_queue after_book)

  pub form_few : t.used ≤ 16384
  unfolding book_fits
  form_few =
      let most : capacity book ≤ 16384 = leb-true (capacity book) 16384 (second_true (leb 1 (capacity book)) (leb (capacity book) 16384) (second_true (eqb (length book % 24) 0) (leb 1 (capacity book) && leb (capacity book) 16384) form_book)) in
      omega (arith, form_used)

  pub form_formed : formed (rows book t.used) ≡ true
  unfolding rest_formed
  form_formed = first_true (formed (rows book t.used)) (lengths_fit queue (filled t)) after_queue

  pub form_leaves : Leaves t queue
  unfolding rest_queue rest_formed
  form_leaves = record {
    places_fit = places_fit t.window queue (first_true (queue_fits t.window queue) rest_formed after_state);
    lengths_hold = second_true (formed (rows book t.used)) (lengths_fit queue (filled t)) after_queue;
  }

  pub form_ascends : Ascends 0 (keys (rows book t.used))
  form_ascends = formed_ascends (rows book t.used) form_formed

  pub form_endings : EndingsListed (rows book t.used)
  form_endings = formed_endings (rows book t.used) form_formed

  pub form_counts : CountsUpTo max_count (rows book t.used)
  form_counts = formed_counts (rows book t.used) form_formed

  pub form_window : t.window ≤ max_window
  unfolding state_fits rest_state rest_queue
  form_window = leb-true t.window max_window (first_true (leb t.window max_window) (leb t.used (capacity book) && leb t.accepted max_accepted) (first_true (state_fits t book) rest_queue after_book))

  pub form_accepted : t.accepted ≤ max_accepted
  unfolding state_fits rest_state rest_queue
  form_accepted =
      let low : Bool = leb t.accepted max_accepted in
      leb-true t.accepted max_accepted (second_true (leb t.used (capacity book)) low (second_true (leb t.window max_window) (leb t.used (capacity book) && low) (first_true (state_fits t book) rest_queue after_book)))

-- ---- the path that leaves

module _ (t : Tracker) (queue : List ℕ) where
  pub none_leaves : (t.window ≡ 0) ⊎ (t.accepted < t.window) → leaving t queue ≡ None
  unfolding leaving
  none_leaves (inl e) = rw (lt-leb 1 t.window (omega arith))
  none_leaves (inr l) = ap (λ (b : Bool). cond b (Some (steps_at queue (next_place t))) None) (and_false (leb 1 t.window) (lt-leb t.window t.accepted l))
    where
      and_false : (a : Bool) {b : Bool} → b ≡ false → a && b ≡ false
      and_false true e = e
      and_false false e = refl

  module _ (some-window : t.window ≡ 0 → ⊥) where
    place_lt : t.accepted % t.window < t.window
    place_lt = mod-lt t.accepted (omega arith)

    pub place_in : 516 * t.window ≤ length queue → next_place t + 516 ≤ length queue
    place_in fits = omega (arith, place_lt)

    module _ (leaves : Leaves t queue) (full : t.window ≤ t.accepted) where
      pub leaves_is : leaving t queue ≡ Some (steps_at queue (next_place t))
      unfolding leaving
      leaves_is = rw (le-leb 1 t.window (omega arith), le-leb t.window t.accepted full)

      pub leaves_steps : (1 ≤ word queue (next_place t)) × (word queue (next_place t) ≤ 64)
      leaves_steps = lengths_at queue (filled t) (t.accepted % t.window) leaves.lengths_hold (omega (arith, place_lt))

      pub leaves_some : 8 ≤ length (take (8 * word queue (next_place t)) (drop (next_place t + 4) queue))
      leaves_some = simp (length-take, length-drop) (omega (arith, place_in leaves.places_fit, leaves_steps))

      pub leaves_part : path_of (take (8 * word queue (next_place t)) (drop (next_place t + 4) queue)) ≡ steps_at queue (next_place t)
      leaves_part = part_steps queue (next_place t) (omega (arith, place_in leaves.places_fit, leaves_steps))

-- where none leaves nothing is taken away
pub nothing_left : (t : Tracker) (queue s : List ℕ) (n : ℕ) → leaving t queue ≡ None → Rewritten s s n (fade_all (left_keys (leaving t queue)) (rows s n))
unfolding change_all
nothing_left t queue s n e = rw e (record { number_is = sym (length_rows s n); rows_are = refl; rest_is = refl })

-- ---- the path that is kept

module _ (t : Tracker) (queue path : List ℕ) where
  pub none_kept : t.window ≡ 0 → queue ≡ queue_with t queue path
  unfolding queue_with
  none_kept e = rw (lt-leb 1 t.window (omega arith))

  pub kept : (t.window ≡ 0 → ⊥) → store queue (next_place t) (place_bytes path) ≡ queue_with t queue path
  unfolding queue_with
  kept n = rw (le-leb 1 t.window (omega arith))

-- ---- what an add leaves

module _ (t : Tracker) (book queue path : List ℕ) (r : Ready t book queue path) where
  module _ (s₁ : List ℕ) (n : ℕ) (len₁ : length s₁ ≡ length book)
      (first : Rewritten book s₁ n (bump_all (counted_keys (path_of path)) (touch_all (listed_keys (path_of path)) (rows book t.used)))) where
    pub number_is : n ≡ length (listed_rows t book path)
    number_is = first.number_is ∙ length_half (path_of path) (rows book t.used)

    pub half_fits : 24 * n ≤ length s₁
    half_fits = omega (arith, number_is, r.room)

    pub half_ascends : Ascends 0 (keys (rows s₁ n))
    half_ascends = rw first.rows_are (ascends_all (Some 1) (λ c. c + 1) (counted_keys (path_of path)) _ (ascends_all (Some 0) (λ c. c) (listed_keys (path_of path)) (rows book t.used) r.ascends))

    module _ (s₂ : List ℕ) (second : Rewritten s₁ s₂ n (fade_all (left_keys (leaving t queue)) (rows s₁ n))) where
      whole : fade_all (left_keys (leaving t queue)) (rows s₁ n) ≡ rows_after t book queue path
      unfolding rows_after add_rows
      whole = ap (fade_all (left_keys (leaving t queue))) first.rows_are

      pub used_is : n ≡ length (rows_after t book queue path)
      used_is = second.number_is ∙ ap length whole

      pub book_is : Bytes s₂ → length s₂ ≡ length s₁ → s₂ ≡ book_after t book queue path
      unfolding book_after
      book_is bytes len₂ =
          let after : List Row = rows_after t book queue path in
          let size : length (bytes_of after) ≡ 24 * n = length_bytes_of after ∙ ap (λ (k : ℕ). 24 * k) (sym used_is) in
          let fits : 24 * n ≤ length s₂ = omega (arith, half_fits) in
          sym (rows_forth s₂ bytes n fits)
          ∙ ap₂ (λ (x : List Row) (y : List ℕ). bytes_of x ++ y) (second.rows_are ∙ whole) (second.rest_is ∙ first.rest_is)
          ∙ ap (λ (k : ℕ). bytes_of after ++ drop k book) (sym size)
