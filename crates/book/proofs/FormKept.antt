-- The form is kept by an add but for its counts: whatever is listed is an ending or a child, in ascent, and its node's ending is listed. So where no count passes 2^30 on
-- the way, each add of a list of paths is in form, and is a whole single add. Assumes nothing.
use mathlib.Core.Path.{◌≡◌, refl, sym, ap, ◌∙◌}
use mathlib.Core.Logic.{inl, inr, ⊎_elim}
use Prim.Native.Nat.{ℕ, zero, suc, ◌+◌, ◌-◌, ◌*◌, ◌/◌, ◌^◌, ◌≤◌, ◌<◌}
use native.Mathlib.Omega.{arith}
use mathlib.Core.List.{List, [], ◌∷◌, ◌++◌}
use Rattle.std.specs.Prelude.{Option, None, Some}
use mathlib.Core.Bool.{true}
use lib.Dec.{leb, ltb}
use lib.ListN.{length, drop, length-append, length-drop, length-map}
use lib.Seq.{drop_at, get_or-drop}
use borrow.Author.Tests.{leb-true, ltb-true, le-leb}
use Rattle.priors.specs.Word.{word}
use Rattle.priors.specs.Address.{rank_at}
use Rattle.priors.specs.Rows.{Row, keys, Ascends, front, change}
use Rattle.priors.proofs.Orders.{Side, below, same, above, side}
use Rattle.priors.proofs.Ranks.{Bytes, word_lt, rank_at_lt}
use Rattle.book.specs.declared.trackers.Tracker.{Tracker}
use Rattle.entries.specs.Limits.{max_window, max_accepted, max_count}
use Rattle.entries.specs.Keys.{no_child, end_key, child_key, node_of}
use Rattle.entries.specs.Entries.{key_at, row_at, rows, bytes_of, Rewritten, CountsUpTo}
use Rattle.book.specs.Path.{Steps, path_of, whole_path, listed_keys, counted_keys}
use Rattle.book.specs.Figures.{All, Ranks}
use Rattle.book.specs.Form.{capacity, queue_fits, state_fits, plain, formed, in_form}
use Rattle.book.specs.Changes.{change_all, touch_all, bump_all, fade_all, left_keys, add_rows, EndingsListed}
use Rattle.book.specs.Calls.{Machine, unless_refused, listed_rows, leaving, rows_after, state_after, book_after, queue_with, add_number, add_state, add_book, add_queue}
use Rattle.book.specs.Batches.{Batched, lent_path, places_in, tried, batched, next_number, with_path, batch_of}
use Rattle.book.specs.Adding.{Going}
use Rattle.book.specs.Claims.{book_step, add}
use Rattle.book.specs.Corollaries.{entries_of, single_number, UnformedBatchLeavesAll, BatchKeepsWhatItTook, BatchKeepsForm, BatchIsSingleAdds}
use Rattle.entries.proofs.KeyLaws.{key_lt}
use Rattle.entries.proofs.EntryLaws.{AllInRange, length_bytes_of, rows_bytes_of}
use Rattle.book.proofs.Lengths.{length_half}
use Rattle.book.proofs.Membership.{In, in_cons, in_none}
use Rattle.book.proofs.ListingForm.{EndOrChild, no_child_lt, node_end, kind_child, below_itself, formed_ends}
use Rattle.book.proofs.BookImage.{formed_of}
use Rattle.entries.proofs.BookLaws.{counts_rise}
use Rattle.book.proofs.FormLaws.{formed_plain, plain_sort}
use Rattle.book.proofs.EndingLaws.{listed_in, in_listed}
use Rattle.book.proofs.PathLaws.{all_bytes, length_steps, steps_ranks}
use Rattle.book.proofs.CallLaws.{form_formed, form_window}
use Rattle.book.proofs.StepLaws.{path_high}
use Rattle.book.proofs.CountingLaws.{length_counted}
use Rattle.book.proofs.GoingLaws.{form_going, counts_below, counts_touches, counts_bumps, counts_fades, going_on, formed_number}
use Rattle.book.proofs.BatchLaws.{lent_bytes, batch_keeps, batch_taken_alone}
use Rattle.book.proofs.Kept.{rule_passed}

-- ---- what is listed is an ending or a child

-- and it is the key of an entry
abbrev Good : ℕ → Type 0
Good k = EndOrChild k × (k < 2 ^ 160)

abbrev AllGood : List Row → Type 0
AllGood rs = All (λ (r : Row). Good r.key) rs

good_front : (k : ℕ) (rs : List Row) (new : Option ℕ) → Good k → AllGood rs → AllGood (front k new rs)
good_front k rs None g h = h
good_front k rs (Some c) g h = (g, h)

good_change : (new : Option ℕ) (step : ℕ → ℕ) (k : ℕ) (rs : List Row) → Good k → AllGood rs → AllGood (change new step k rs)
unfolding change
good_change new step k [] g h = good_front k [] new g tt
good_change new step k (r ∷ rs) g h = go (side k r.key) (good_change new step k rs g h.1)
  where
    go : Side k r.key → AllGood (change new step k rs) → AllGood (change new step k (r ∷ rs))
    go (below l e) ih = rw e (good_front k (r ∷ rs) new g h)
    go (same q e) ih = rw e (h.0, h.1)
    go (above l e) ih = rw e (h.0, ih)

good_changes : (new : Option ℕ) (step : ℕ → ℕ) (ks : List ℕ) (rs : List Row) → All Good ks → AllGood rs → AllGood (change_all new step ks rs)
unfolding change_all
good_changes new step [] rs g h = h
good_changes new step (k ∷ ks) rs g h = good_changes new step ks (change new step k rs) g.1 (good_change new step k rs g.0 h)

-- taking away lists nothing
keys_fade : (step : ℕ → ℕ) (k : ℕ) (rs : List Row) → keys (change None step k rs) ≡ keys rs
unfolding change
keys_fade step k [] = refl
keys_fade step k (r ∷ rs) = go (side k r.key) (keys_fade step k rs)
  where
    go : Side k r.key → keys (change None step k rs) ≡ keys rs → keys (change None step k (r ∷ rs)) ≡ keys (r ∷ rs)
    go (below l e) ih = rw e
    go (same q e) ih = rw e
    go (above l e) ih = rw (e, ih)

keys_fades : (ks : List ℕ) (rs : List Row) → keys (fade_all ks rs) ≡ keys rs
unfolding change_all
keys_fades [] rs = refl
keys_fades (k ∷ ks) rs = keys_fades ks (change None (λ c. c - 1) k rs) ∙ keys_fade (λ c. c - 1) k rs

-- it is a matter of the keys alone
good_keys : (rs rs' : List Row) → keys rs ≡ keys rs' → AllGood rs → AllGood rs'
good_keys rs rs' e h = back rs' (rw e at (forth rs h))
  where
    forth : (l : List Row) → AllGood l → All Good (keys l)
    forth [] g = tt
    forth (r ∷ l) g = (g.0, forth l g.1)

    back : (l : List Row) → All Good (keys l) → AllGood l
    back [] g = tt
    back (r ∷ l) g = (g.0, back l g.1)

good_end : (a : ℕ) → a < 2 ^ 64 → Good (end_key a)
unfolding end_key
good_end a h = (inl (ap end_key (sym (node_end a))), key_lt a 0 no_child h (omega arith) no_child_lt)

good_child : (a b : ℕ) → a < 2 ^ 64 → b < 2 ^ 64 → Good (child_key a b)
unfolding child_key
good_child a b h i = (inr (kind_child a b i), key_lt a 1 b h (omega arith) i)

good_listed : (p : Steps) → Ranks p → All Good (listed_keys p)
unfolding listed_keys
good_listed [] h = tt
good_listed (a ∷ []) h = (good_end a h.0, tt)
good_listed (a ∷ b ∷ p) h = (good_end a h.0, (good_child a b h.0 h.1.0, good_listed (b ∷ p) h.1))

good_counted : (p : Steps) → Ranks p → All Good (counted_keys p)
unfolding counted_keys
good_counted [] h = tt
good_counted (a ∷ []) h = (good_end a h.0, tt)
good_counted (a ∷ b ∷ p) h = (good_child a b h.0 h.1.0, good_counted (b ∷ p) h.1)

-- the rows of bytes in form
good_formed : (rs : List Row) → All (λ (r : Row). plain r ≡ true) rs → All (λ (r : Row). r.key < 2 ^ 160) rs → AllGood rs
good_formed [] h k = tt
good_formed (r ∷ rs) h k = ((plain_sort r h.0, k.0), good_formed rs h.1 k.1)

keys_small : (s : List ℕ) → Bytes s → (n : ℕ) → All (λ (r : Row). r.key < 2 ^ 160) (rows s n)
unfolding rows row_at key_at
keys_small s bytes zero = tt
keys_small s bytes (suc n) =
    (key_lt (rank_at s 0) (word s 8) (rank_at s 12) (rank_at_lt s bytes 0) (word_lt s bytes 8) (rank_at_lt s bytes 12), keys_small (drop 24 s) (λ i. rw (get_or-drop 24 s i 0) (bytes (24 + i))) n)

in_range : (m : ℕ) (rs : List Row) → m < 2 ^ 32 → AllGood rs → CountsUpTo m rs → AllInRange rs
in_range m [] l g c = tt
in_range m (r ∷ rs) l g c = (record { key_fits = g.0.1; count_fits = omega (arith, c.0) }, in_range m rs l g.1 c.1)

-- ---- the form of such rows

good_in : (rs : List Row) → AllGood rs → (k : ℕ) → In k (keys rs) → EndOrChild k
good_in [] g k i = in_none k i
good_in (r ∷ rs) g k i = ⊎_elim (λ q. rw q g.0.0) (λ m. good_in rs g.1 k m) (in_cons k r.key (keys rs) i)

rows_formed : (rs : List Row) → Ascends 0 (keys rs) → EndingsListed rs → AllGood rs → CountsUpTo max_count rs → formed rs ≡ true
rows_formed rs asc ends good counts =
    formed_of rs
    (formed_ends (keys rs) asc (λ k i. (below_itself k (good_in rs good k i), listed_in (end_key (node_of k)) rs (ends k (in_listed 0 k rs asc i)))))
    (good_in rs good) counts

-- ---- what is kept from add to add

record Shaped (m : Machine) : Type 0 where
  going : Going m.state m.book m.queue
  window_le : m.state.window ≤ max_window
  good : AllGood (rows m.book m.state.used)

shaped_form : (m : Machine) → Shaped m → CountsUpTo max_count (rows m.book m.state.used) → in_form m.state m.book m.queue ≡ true
unfolding in_form state_fits queue_fits
shaped_form m s counts =
    let t = m.state in
    let g = s.going in
    rw (g.book_sized, le-leb t.window max_window s.window_le, le-leb t.used (capacity m.book) (omega (arith, g.used_fit)), le-leb t.accepted max_accepted g.accepted_fit)
    (rw (le-leb (516 * t.window) (length m.queue) g.queue_sized.places_fit, rows_formed (rows m.book t.used) g.ascends g.endings_listed s.good counts)
    g.queue_sized.lengths_hold)

form_shaped : (m : Machine) → Bytes m.book → in_form m.state m.book m.queue ≡ true → Shaped m
form_shaped m bytes form = record {
  going = form_going m.state m.book m.queue form;
  window_le = form_window m.state m.book m.queue form;
  good = good_formed (rows m.book m.state.used) (formed_plain (rows m.book m.state.used) (form_formed m.state m.book m.queue form)) (keys_small m.book bytes m.state.used);
}

-- rows written over the front of a book are read back
written : (s : List ℕ) (rs : List Row) → AllInRange rs → 24 * length rs ≤ length s → let s' = bytes_of rs ++ drop (length (bytes_of rs)) s in (length s' ≡ length s) × Rewritten s s' (length rs) rs
written s rs r fits =
    let size : length (bytes_of rs) ≡ 24 * length rs = length_bytes_of rs in (
      omega (arith, length-append (bytes_of rs) (drop (length (bytes_of rs)) s), length-drop (length (bytes_of rs)) s),
      record {
        number_is = refl;
        rows_are = rows_bytes_of rs (drop (length (bytes_of rs)) s) r;
        rest_is = drop_at (bytes_of rs) (drop (length (bytes_of rs)) s) (24 * length rs) size ∙ ap (λ (k : ℕ). drop k s) size;
      },
    )

module _ (m : Machine) (path : List ℕ) (bytes : All (λ b. b < 256) path) (s : Shaped m) (taken : next_number m path ≡ 0) where
  abbrev t : Tracker
  t = m.state

  abbrev p : Steps
  p = path_of path

  abbrev rs : List Row
  rs = rows m.book t.used

  abbrev half : List Row
  half = bump_all (counted_keys p) (touch_all (listed_keys p) rs)

  abbrev after : List Row
  after = fade_all (left_keys (leaving t m.queue)) half

  passed : (whole_path path ≡ true) × (t.accepted < max_accepted) × (length (listed_rows t m.book path) ≤ capacity m.book)
  unfolding next_number
  passed =
      let a = rule_passed (whole_path path) _ 9 taken in
      let b = rule_passed (ltb t.accepted max_accepted) _ 10 a.1 in
      let c = rule_passed (leb (length (listed_rows t m.book path)) (capacity m.book)) 0 11 b.1 in
      (a.0, ltb-true t.accepted max_accepted b.0, leb-true (length (listed_rows t m.book path)) (capacity m.book) c.0)

  ranks : Ranks p
  ranks = steps_ranks path (all_bytes path bytes) (length path / 8)

  good_half : AllGood half
  good_half = good_changes (Some 1) (λ c. c + 1) (counted_keys p) (touch_all (listed_keys p) rs) (good_counted p ranks) (good_changes (Some 0) (λ c. c) (listed_keys p) rs (good_listed p ranks) s.good)

  good_after : AllGood after
  good_after = good_keys half after (sym (keys_fades (left_keys (leaving t m.queue)) half)) good_half

  counts_half : CountsUpTo (2 ^ 31 + 64) half
  counts_half =
      let few : length (counted_keys p) ≤ 64 = omega (arith, length_counted p, length_steps path (length path / 8), path_high path passed.0) in
      counts_rise (2 ^ 31 + length (counted_keys p)) (2 ^ 31 + 64) half (omega arith)
      (counts_bumps (2 ^ 31) (counted_keys p) (touch_all (listed_keys p) rs) (counts_touches (2 ^ 31) (listed_keys p) rs (counts_below t m.book m.queue s.going)))

  counts_after : CountsUpTo (2 ^ 31 + 64) after
  counts_after = counts_fades (2 ^ 31 + 64) (left_keys (leaving t m.queue)) half counts_half

  same_number : length after ≡ length half
  same_number = sym (length-map after (λ (r : Row). r.key)) ∙ ap length (keys_fades (left_keys (leaving t m.queue)) half) ∙ length-map half (λ (r : Row). r.key)

  half_fits : 24 * length half ≤ length m.book
  half_fits = omega (arith, length_half p rs, passed.2)

  shaped_on : Shaped (with_path m path)
  unfolding with_path state_after book_after rows_after add_rows
  shaped_on =
      let first = written m.book half (in_range (2 ^ 31 + 64) half (omega arith) good_half counts_half) half_fits in
      let second = written m.book after (in_range (2 ^ 31 + 64) after (omega arith) good_after counts_after) (omega (arith, half_fits, same_number)) in
      let s₁ : List ℕ = bytes_of half ++ drop (length (bytes_of half)) m.book in
      let s₂ : List ℕ = bytes_of after ++ drop (length (bytes_of after)) m.book in
      let again : Rewritten s₁ s₂ (length half) (fade_all (left_keys (leaving t m.queue)) (rows s₁ (length half))) =
      rw first.1.rows_are (record {
        number_is = sym same_number;
        rows_are = ap (rows s₂) (sym same_number) ∙ second.1.rows_are;
        rest_is = ap (λ (k : ℕ). drop (24 * k) s₂) (sym same_number) ∙ second.1.rest_is ∙ ap (λ (k : ℕ). drop (24 * k) m.book) same_number ∙ sym first.1.rest_is;
      }) in
      let on = going_on t m.book m.queue path s.going passed.0 passed.1 passed.2 (steps_ranks path (all_bytes path bytes) (length path / 8)) s₁ (length half) first.0 first.1 s₂ (second.0 ∙ sym first.0) again in
      record {
        going = rw (same_number) on;
        window_le = s.window_le;
        good = rw second.1.rows_are good_after;
      }

-- ---- whole single adds

single_tried : (b : Batched Machine) (path : List ℕ) → in_form b.left.state b.left.book b.left.queue ≡ true
    → tried single_number (λ s q. (book_step s (add q)).1) b path ≡ tried next_number with_path b path
unfolding book_step add_state add_book add_queue with_path
single_tried b path form =
    let m = b.left in
    go (add_number m.state m.book m.queue path) (next_number m path) (formed_number m.state m.book m.queue path form)
  where
    go : (n k : ℕ) → n ≡ k
        → ◌≡◌ {A = Batched Machine} (record { number = n; taken = unless_refused n (b.taken + 1) b.taken; left = unless_refused n (record { state = unless_refused n (state_after b.left.state b.left.book b.left.queue path) b.left.state; book = unless_refused n (book_after b.left.state b.left.book b.left.queue path) b.left.book; queue = unless_refused n (queue_with b.left.state b.left.queue path) b.left.queue }) b.left })
        (record { number = k; taken = unless_refused k (b.taken + 1) b.taken; left = unless_refused k (record { state = state_after b.left.state b.left.book b.left.queue path; book = book_after b.left.state b.left.book b.left.queue path; queue = queue_with b.left.state b.left.queue path }) b.left })
    go zero k e = rw (← e)
    go (suc n) k e = rw (← e)

module _ (m : Machine) (places : List ℕ) (book-bytes : All (λ b. b < 256) m.book) (bytes : All (λ b. b < 256) places) (form : in_form m.state m.book m.queue ≡ true) where
  shaped : (k : ℕ) → Shaped (batched next_number with_path m places k).left
  shaped = batch_keeps next_number with_path m places Shaped (form_shaped m (all_bytes m.book book-bytes) form) (λ x k h e. shaped_on x (lent_path places k) (lent_bytes places k bytes) h e)

  singles : ((k : ℕ) → k < places_in places → CountsUpTo max_count (entries_of (batched next_number with_path m places k).left))
      → (k : ℕ) → k ≤ places_in places → batched single_number (λ s q. (book_step s (add q)).1) m places k ≡ batched next_number with_path m places k
  unfolding batched
  singles counts zero l = refl
  singles counts (suc k) l =
      let b = batched next_number with_path m places k in
      ap (λ (x : Batched Machine). unless_refused x.number (tried single_number (λ s q. (book_step s (add q)).1) x (lent_path places k)) x) (singles counts k (omega arith))
      ∙ ap (λ (x : Batched Machine). unless_refused b.number x b) (single_tried b (lent_path places k) (shaped_form b.left (shaped k) (counts k l)))

pub batch_is_single_adds : BatchIsSingleAdds
unfolding batch_of
batch_is_single_adds m places book-bytes bytes form counts = rw form (sym (singles m places book-bytes bytes form counts (places_in places) (omega arith)))

pub batch_keeps_form : BatchKeepsForm
unfolding batch_of
batch_keeps_form m places book-bytes bytes form =
    rw form (λ (c : CountsUpTo max_count (entries_of (batched next_number with_path m places (places_in places)).left)). shaped_form (batched next_number with_path m places (places_in places)).left (shaped m places book-bytes bytes form (places_in places)) c)

-- ---- what a list leaves

pub unformed_batch_leaves_all : UnformedBatchLeavesAll
unfolding batch_of
unformed_batch_leaves_all m places e = rw e

pub batch_keeps_what_it_took : BatchKeepsWhatItTook
unfolding batch_of
batch_keeps_what_it_took m places form = rw form (batch_taken_alone next_number with_path m places (places_in places))
