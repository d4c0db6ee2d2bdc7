-- Lists of adds behind one test of the form: what the test hands to the first, and what each hands to the next. Assumes nothing.
use mathlib.Core.Path.{◌≡◌, refl, sym, ap, ◌∙◌}
use mathlib.Core.Logic.{◌⊎◌, inl, inr, ⊎_elim}
use Prim.Native.Nat.{ℕ, zero, suc, ◌+◌, ◌-◌, ◌*◌, ◌/◌, ◌%◌, ◌^◌, ◌≤◌, ◌<◌, min}
use native.Mathlib.Nat.{mod-eq_of_lt}
use native.Mathlib.Omega.{arith}
use mathlib.Core.List.{List, [], ◌∷◌, ◌++◌, append_assoc}
use Rattle.std.specs.Prelude.{Option, None, Some, Ok, Err}
use mathlib.Core.Bool.{Bool, true, false, cond, ◌&&◌}
use lib.Dec.{leb, eqb}
use lib.ListN.{length, take, drop, length-append, length-replicate}
use lib.Seq.{length-take-le}
use borrow.Author.Tests.{leb-true, eqb-true, le-leb, lt-leb, lt-ltb, le-ltb}
use Rattle.priors.specs.Word.{word, word_bytes, store}
use Rattle.priors.specs.declared.refusals.Reason.{Reason}
use Rattle.priors.specs.Refusals.{reason_number}
use Rattle.priors.proofs.RuleLaws.{reason_some}
use Rattle.priors.specs.Rows.{Row, look, change, touch, bump, fade}
use Rattle.priors.proofs.Tests.{three}
use Rattle.priors.proofs.BelowLaws.{first_true, second_true}
use Rattle.priors.proofs.Ranks.{Bytes}
use Rattle.priors.proofs.Orders.{Side, below, same, above, side}
use Rattle.priors.proofs.RowLaws.{after, look_here, look_change}
use Rattle.priors.proofs.Fields.{length_store, word_at, word_bytes_lem, word_store_other}
use Rattle.book.specs.declared.trackers.Tracker.{Tracker}
use Rattle.entries.specs.Limits.{max_accepted, max_count}
use Rattle.entries.specs.Keys.{end_key, child_key, node_of}
use Rattle.book.specs.Path.{Steps, path_of, whole_path, listed_keys, counted_keys}
use Rattle.book.specs.Figures.{Listed, Ranks}
use Rattle.entries.specs.Entries.{rows, Rewritten, CountsUpTo}
use Rattle.book.specs.Form.{capacity, book_fits, lengths_fit, filled, in_form}
use Rattle.book.specs.Changes.{EndingsListed, change_all, touch_all, bump_all, fade_all, left_keys}
use Rattle.book.specs.Calls.{Machine, changed_answer, unless_refused, zeros, listed_rows, leaving, next_place, place_bytes, queue_with, state_after, book_after, add_number, add_state, add_book, add_queue, add_answer}
use Rattle.book.specs.Batches.{next_number}
use Rattle.book.specs.Adding.{Leaves, Ready, Going, Gone, next_state}
use Rattle.book.proofs.Passes.{one_pass}
use Rattle.book.proofs.OnePass.{one_pass_lem}
use Rattle.book.proofs.ManyRows.{ascends_all}
use Rattle.book.proofs.Lengths.{listed_change}
use Rattle.book.proofs.ListingForm.{node_end}
use Rattle.book.proofs.EndingLaws.{change_keeps, pair_keeps}
use Rattle.entries.proofs.BookLaws.{counts_rise, counts_change}
use Rattle.book.proofs.PathLaws.{length_steps}
use Rattle.book.proofs.StepLaws.{path_low, path_high, path_even}
use Rattle.book.proofs.FormLaws.{lengths_at}
use Rattle.book.proofs.CountingLaws.{length_counted}
use Rattle.book.proofs.CallLaws.{form_book, form_used, form_ascends, form_endings, form_counts, form_leaves, form_accepted, half_fits, half_ascends, used_is, book_is, kept, none_kept, place_in}

-- ---- counts

counts_passed : (m : ℕ) (step : ℕ → ℕ) (k : ℕ) (rs : List Row) → ((d : ℕ) → d ≤ m → step d ≤ m) → CountsUpTo m rs → CountsUpTo m (change None step k rs)
unfolding change
counts_passed m step k [] hs h = tt
counts_passed m step k (r ∷ rs) hs h = go (side k r.key) (counts_passed m step k rs hs h.1)
  where
    go : Side k r.key → CountsUpTo m (change None step k rs) → CountsUpTo m (change None step k (r ∷ rs))
    go (below q e) ih = rw e h
    go (same q e) ih = rw e (hs r.count h.0, h.1)
    go (above q e) ih = rw e (h.0, ih)

pub counts_touches : (m : ℕ) (ks : List ℕ) (rs : List Row) → CountsUpTo m rs → CountsUpTo m (touch_all ks rs)
unfolding change_all
counts_touches m [] rs h = h
counts_touches m (k ∷ ks) rs h = counts_touches m ks (touch k rs) (counts_change m m 0 (λ c. c) k rs (omega arith) (omega arith) (λ d l. l) h)

pub counts_bumps : (m : ℕ) (ks : List ℕ) (rs : List Row) → CountsUpTo m rs → CountsUpTo (m + length ks) (bump_all ks rs)
unfolding change_all
counts_bumps m [] rs h = counts_rise m (m + 0) rs (omega arith) h
counts_bumps m (k ∷ ks) rs h =
    let e : m + 1 + length ks ≡ m + suc (length ks) = omega arith in
    rw (← e) (counts_bumps (m + 1) ks (bump k rs) (counts_change m (m + 1) 1 (λ c. c + 1) k rs (omega arith) (omega arith) (λ d l. omega arith) h))

pub counts_fades : (m : ℕ) (ks : List ℕ) (rs : List Row) → CountsUpTo m rs → CountsUpTo m (fade_all ks rs)
unfolding change_all
counts_fades m [] rs h = h
counts_fades m (k ∷ ks) rs h = counts_fades m ks (fade k rs) (counts_passed m (λ c. c - 1) k rs (λ d l. omega arith) h)

-- ---- endings

listed_bump : (k : ℕ) (rs : List Row) → Listed k (bump k rs)
listed_bump k rs = go (look k rs) (look_here (Some 1) (λ c. c + 1) k rs)
  where
    go : (o : Option ℕ) → look k (bump k rs) ≡ after (Some 1) (λ c. c + 1) o → Listed k (bump k rs)
    go None e = (1, e)
    go (Some c) e = (c + 1, e)

pass_endings : (p : Steps) (rs : List Row) → Ranks p → EndingsListed rs → EndingsListed (one_pass p rs)
unfolding one_pass
pass_endings [] rs r h = h
pass_endings (a ∷ []) rs r h = change_keeps (Some 1) (λ c. c + 1) (end_key a) rs (rw (node_end a) (listed_bump (end_key a) rs)) h
pass_endings (a ∷ b ∷ p) rs r h = pass_endings (b ∷ p) (bump (child_key a b) (touch (end_key a) rs)) r.1 (pair_keeps (Some 1) (λ c. c + 1) a b rs r.1.0 h)

fade_endings : (k : ℕ) (rs : List Row) → EndingsListed rs → EndingsListed (fade k rs)
fade_endings k rs h j l = listed_change None (λ c. c - 1) k (end_key (node_of j)) rs (h j (back (look j rs) refl))
  where
    never : (b : Bool) (c : ℕ) → cond b (after None (λ c. c - 1) None) None ≡ Some c → ⊥
    never true c e = let z : ◌≡◌ {A = ℕ} 0 1 = cc in omega arith
    never false c e = let z : ◌≡◌ {A = ℕ} 0 1 = cc in omega arith

    back : (o : Option ℕ) → look j rs ≡ o → Listed j rs
    back (Some c) e = (c, e)
    back None e = absurd (never (eqb j k) l.0 (ap (λ (o : Option ℕ). cond (eqb j k) (after None (λ c. c - 1) o) o) (sym e) ∙ sym (look_change None (λ c. c - 1) k j rs) ∙ l.1))

fades_endings : (ks : List ℕ) (rs : List Row) → EndingsListed rs → EndingsListed (fade_all ks rs)
unfolding change_all
fades_endings [] rs h = h
fades_endings (k ∷ ks) rs h = fades_endings ks (fade k rs) (fade_endings k rs h)

-- ---- the queue

lengths_of : (q : List ℕ) (n : ℕ) → ((j : ℕ) → j < n → (1 ≤ word q (516 * j)) × (word q (516 * j) ≤ 64)) → lengths_fit q n ≡ true
unfolding lengths_fit
lengths_of q zero h = refl
lengths_of q (suc n) h =
    let here = h n (omega arith) in
    rw (lengths_of q n (λ j l. h j (omega arith)), le-leb 1 (word q (516 * n)) here.0, le-leb (word q (516 * n)) 64 here.1)

split : (a b : ℕ) → (a < b) ⊎ (b ≤ a)
split a b = ⊎_elim (λ l. inl l) (λ r. inr (⊎_elim (λ e. omega arith) (λ g. omega arith) r)) (three a b)

-- a filled place was filled before, unless it is the one that is written
was_filled : (w n j : ℕ) → j < min w (n + 1) → (j ≡ n % w → ⊥) → j < min w n
was_filled w n j l ne = ⊎_elim (λ lt. let e : n % w ≡ n = mod-eq_of_lt lt in omega arith) (λ ge. omega arith) (split n w)

module _ (path : List ℕ) (whole : whole_path path ≡ true) where
  length_place : length (place_bytes path) ≡ 516
  unfolding place_bytes
  length_place = simp (length-append, length-replicate) (omega (arith, path_high path whole, path_even path whole))

  word_place : (q : List ℕ) (a : ℕ) → a + 516 ≤ length q → word (store q a (place_bytes path)) a ≡ length path / 8
  unfolding store place_bytes
  word_place q a h =
      let v : ℕ = length path / 8 in
      let rest : List ℕ = path ++ zeros (512 - length path) in
      let behind : List ℕ = drop (a + length (word_bytes v ++ rest)) q in
      let z : a + 0 ≡ a = omega arith in
      ap (λ (k : ℕ). word (take a q ++ ((word_bytes v ++ rest) ++ behind)) k) (sym z)
      ∙ word_at (take a q) ((word_bytes v ++ rest) ++ behind) a 0 (length-take-le a q (omega arith))
      ∙ ap (λ (l : List ℕ). word l 0) (append_assoc (word_bytes v) rest behind)
      ∙ word_bytes_lem v (rest ++ behind) (omega (arith, path_high path whole))

  module _ (t : Tracker) (q : List ℕ) (leaves : Leaves t q) where
    abbrev Whole_at : List ℕ → ℕ → Type 0
    Whole_at s j = (1 ≤ word s (516 * j)) × (word s (516 * j) ≤ 64)

    module _ (some-window : t.window ≡ 0 → ⊥) where
      place : next_place t + 516 ≤ length q
      place = place_in t q some-window leaves.places_fit

      elsewhere : (j : ℕ) → j < min t.window t.accepted → (516 * j + 4 ≤ next_place t) ⊎ (next_place t + 516 ≤ 516 * j) → Whole_at (store q (next_place t) (place_bytes path)) j
      elsewhere j l o =
          let apart : (516 * j + 4 ≤ next_place t) ⊎ (next_place t + length (place_bytes path) ≤ 516 * j) = ⊎_elim (λ x. inl x) (λ x. inr (omega (arith, length_place))) o in
          rw (word_store_other q (next_place t) (place_bytes path) (516 * j) (omega (arith, length_place, place)) apart) (lengths_at q (filled t) j leaves.lengths_hold l)

      at : (j : ℕ) → j < min t.window (t.accepted + 1) → (j < t.accepted % t.window) ⊎ ((j ≡ t.accepted % t.window) ⊎ (t.accepted % t.window < j)) → Whole_at (store q (next_place t) (place_bytes path)) j
      at j l (inl lt) = elsewhere j (was_filled t.window t.accepted j l (λ e. omega arith)) (inl (omega arith))
      at j l (inr (inr gt)) = elsewhere j (was_filled t.window t.accepted j l (λ e. omega arith)) (inr (omega arith))
      at j l (inr (inl e)) = rw (e, word_place q (next_place t) place) (path_low path whole, path_high path whole)

      stored_lengths : lengths_fit (store q (next_place t) (place_bytes path)) (min t.window (t.accepted + 1)) ≡ true
      stored_lengths = lengths_of (store q (next_place t) (place_bytes path)) (min t.window (t.accepted + 1)) (λ j l. at j l (three j (t.accepted % t.window)))

      stored_fit : 516 * t.window ≤ length (store q (next_place t) (place_bytes path))
      stored_fit = omega (arith, leaves.places_fit, place, length_place, length_store q (next_place t) (place_bytes path) (omega (arith, length_place, place)))

    pub kept_leaves : (n : ℕ) → Leaves (next_state t n) (queue_with t q path)
    kept_leaves n = go t.window refl
      where
        go : (w : ℕ) → t.window ≡ w → Leaves (next_state t n) (queue_with t q path)
        go zero e =
            rw (← none_kept t q path e)
            (record { places_fit = leaves.places_fit; lengths_hold = lengths_of q (min t.window (t.accepted + 1)) (λ j l. absurd (omega arith)) })
        go (suc w) e =
            let there : t.window ≡ 0 → ⊥ = λ z. omega arith in
            rw (← kept t q path there)
            (record { places_fit = stored_fit there; lengths_hold = stored_lengths there })

-- ---- from one add to the next

-- what the form hands to the first
pub form_going : (t : Tracker) (book queue : List ℕ) → in_form t book queue ≡ true → Going t book queue
form_going t book queue form = record {
  book_sized = form_book t book queue form;
  used_fit = form_used t book queue form;
  ascends = form_ascends t book queue form;
  endings_listed = form_endings t book queue form;
  counts_fit = counts_rise max_count (max_count + 64 * t.accepted) (rows book t.used) (omega arith) (form_counts t book queue form);
  queue_sized = form_leaves t book queue form;
  accepted_fit = form_accepted t book queue form;
}

module _ (t : Tracker) (book queue : List ℕ) (g : Going t book queue) where
  pub counts_below : CountsUpTo (2 ^ 31) (rows book t.used)
  counts_below = counts_rise (max_count + 64 * t.accepted) (2 ^ 31) (rows book t.used) (omega (arith, g.accepted_fit)) g.counts_fit

  pub book_small : length book ≤ 24 * 16384
  unfolding book_fits
  book_small =
      let whole : length book % 24 ≡ 0 = eqb-true (length book % 24) 0 (first_true (eqb (length book % 24) 0) (leb 1 (capacity book) && leb (capacity book) 16384) g.book_sized) in
      let most : capacity book ≤ 16384 = leb-true (capacity book) 16384 (second_true (leb 1 (capacity book)) (leb (capacity book) 16384) (second_true (eqb (length book % 24) 0) (leb 1 (capacity book) && leb (capacity book) 16384) g.book_sized)) in
      omega arith

  pub used_small : t.used ≤ 16384
  used_small = omega (arith, g.used_fit, book_small)

-- ---- the number

abbrev pub machine : Tracker → List ℕ → List ℕ → Machine
machine t book queue = record { state = t; book = book; queue = queue }

module _ (t : Tracker) (book queue path : List ℕ) where
  pub not_whole : whole_path path ≡ false → next_number (machine t book queue) path ≡ 10
  unfolding next_number
  not_whole e = rw e

  pub no_more : whole_path path ≡ true → max_accepted ≤ t.accepted → next_number (machine t book queue) path ≡ 11
  unfolding next_number
  no_more e h = rw (e, le-ltb t.accepted max_accepted h)

  pub no_room : whole_path path ≡ true → t.accepted < max_accepted → capacity book < length (listed_rows t book path) → next_number (machine t book queue) path ≡ 12
  unfolding next_number
  no_room e h r = rw (e, lt-ltb t.accepted max_accepted h, lt-leb (length (listed_rows t book path)) (capacity book) r)

  -- a refused path changes nothing
  pub gone_refused : (n : ℕ) → Going t book queue → next_number (machine t book queue) path ≡ suc n → {k : ℕ} → k ≡ suc n → {s : List ℕ} → s ≡ book → Gone t book queue path k t s queue
  gone_refused n g e f h = rw (f, h) (record { number_is = sym e; state_is = refl; book_is = refl; queue_is = refl; going = g })

  module _ (form : in_form t book queue ≡ true) where
    -- in form, it is the answer of a single add
    pub formed_number : add_number t book queue path ≡ next_number (machine t book queue) path
    unfolding add_number next_number
    formed_number = rw form

    -- from what an add in a list of adds leaves, with the number and the state that are told
    told_answer : (n : ℕ) (told t' : Tracker) (book' queue' : List ℕ) → Gone t book queue path n t' book' queue' → told ≡ t'
        → record { number = n; state = Some told; taken = None; book = book'; queue = queue' } ≡ add_answer t book queue path
    unfolding add_state add_book add_queue
    told_answer n told t' book' queue' g alike =
        let e : n ≡ add_number t book queue path = g.number_is ∙ sym formed_number in
        let state : told ≡ add_state t book queue path = alike ∙ g.state_is ∙ ap (λ (m : ℕ). unless_refused m (state_after t book queue path) t) e in
        let left : book' ≡ add_book t book queue path = g.book_is ∙ ap (λ (m : ℕ). unless_refused m (book_after t book queue path) book) e in
        let places : queue' ≡ add_queue t book queue path = g.queue_is ∙ ap (λ (m : ℕ). unless_refused m (queue_with t queue path) queue) e in
        λ i. record { number = e i; state = Some (state i); taken = None; book = left i; queue = places i }

    pub gone_answer : (t' : Tracker) (book' queue' : List ℕ) → Gone t book queue path 0 t' book' queue' → changed_answer t (Ok t') book' queue' ≡ add_answer t book queue path
    gone_answer t' book' queue' g = told_answer 0 t' t' book' queue' g refl

    pub refused_answer : (r : Reason) (t' : Tracker) (book' queue' : List ℕ) → Gone t book queue path (reason_number r) t' book' queue' → changed_answer t (Err r) book' queue' ≡ add_answer t book queue path
    refused_answer r t' book' queue' g =
        let n = reason_some r in
        told_answer (reason_number r) t t' book' queue' g (sym (g.state_is ∙ ap (λ (m : ℕ). unless_refused m (state_after t book queue path) t) n.1))

module _ (t : Tracker) (book queue path : List ℕ) (g : Going t book queue) (whole : whole_path path ≡ true) (more : t.accepted < max_accepted)
    (room : length (listed_rows t book path) ≤ capacity book) where
  pub ready : Ready t book queue path
  ready = record {
    book_sized = g.book_sized;
    used_fit = g.used_fit;
    ascends = g.ascends;
    endings_listed = g.endings_listed;
    counts_fit = counts_below t book queue g;
    queue_sized = g.queue_sized;
    path_whole = whole;
    not_last = more;
    room = room;
  }

  module _ (ranks : Ranks (path_of path)) (s₁ : List ℕ) (n : ℕ) (len₁ : length s₁ ≡ length book)
      (first : Rewritten book s₁ n (bump_all (counted_keys (path_of path)) (touch_all (listed_keys (path_of path)) (rows book t.used))))
      (s₂ : List ℕ) (len₂ : length s₂ ≡ length s₁) (second : Rewritten s₁ s₂ n (fade_all (left_keys (leaving t queue)) (rows s₁ n))) where
    half_endings : EndingsListed (rows s₁ n)
    half_endings =
        rw (first.rows_are ∙ sym (one_pass_lem (path_of path) (rows book t.used) g.ascends))
        (pass_endings (path_of path) (rows book t.used) ranks g.endings_listed)

    half_counts : CountsUpTo (max_count + 64 * (t.accepted + 1)) (rows s₁ n)
    half_counts =
        let m : ℕ = max_count + 64 * t.accepted in
        let ks : List ℕ = counted_keys (path_of path) in
        let ls : List ℕ = listed_keys (path_of path) in
        let few : length ks ≤ 64 = omega (arith, length_counted (path_of path), length_steps path (length path / 8), path_high path whole) in
        rw first.rows_are
        (counts_rise (m + length ks) (max_count + 64 * (t.accepted + 1)) (bump_all ks (touch_all ls (rows book t.used))) (omega arith)
        (counts_bumps m ks (touch_all ls (rows book t.used)) (counts_touches m ls (rows book t.used) g.counts_fit)))

    pub going_on : Going (next_state t n) s₂ (queue_with t queue path)
    unfolding book_fits
    going_on =
        let len : length s₂ ≡ length book = len₂ ∙ len₁ in
        record {
          book_sized = rw len g.book_sized;
          used_fit = omega (arith, half_fits t book queue path ready s₁ n len₁ first);
          ascends = rw second.rows_are (ascends_all None (λ c. c - 1) (left_keys (leaving t queue)) (rows s₁ n) (half_ascends t book queue path ready s₁ n len₁ first));
          endings_listed = rw second.rows_are (fades_endings (left_keys (leaving t queue)) (rows s₁ n) half_endings);
          counts_fit = rw second.rows_are (counts_fades (max_count + 64 * (t.accepted + 1)) (left_keys (leaving t queue)) (rows s₁ n) half_counts);
          queue_sized = kept_leaves path whole t queue g.queue_sized n;
          accepted_fit = omega (arith, more);
        }

    pub gone_taken : {s' : List ℕ} → s' ≡ s₂ → Bytes s' → (t' : Tracker) → t' ≡ next_state t n → (queue' : List ℕ) → queue' ≡ queue_with t queue path → Gone t book queue path 0 t' s' queue'
    unfolding state_after next_number
    gone_taken {s'} d bytes t' e queue' f = record {
      number_is = rw (whole, lt-ltb t.accepted max_accepted more, le-leb (length (listed_rows t book path)) (capacity book) room);
      state_is = e ∙ ap (next_state t) (used_is t book queue path ready s₁ n len₁ first s₂ second);
      book_is = d ∙ book_is t book queue path ready s₁ n len₁ first s₂ second (rw d at bytes) len₂;
      queue_is = f;
      going = rw (e, d, f) going_on;
    }
