-- Openings, adds, lists of paths and tidies go as the recount says: one call takes the image of a recount to the image of the next with the recount's own answer, since the image has
-- the form, its rows are the recount's, the path about to leave is the oldest of the window part, and what a tidy keeps is what the window part lists. An opening is
-- answered so whatever was there before, and one that is accepted leaves an image. Assumes nothing.
use mathlib.Core.Path.{◌≡◌, refl, sym, ap, ap₂, ◌∙◌}
use Prim.Native.Nat.{ℕ, zero, suc, ◌+◌, ◌-◌, ◌*◌, ◌≤◌, ◌<◌}
use native.Mathlib.Omega.{arith}
use mathlib.Core.List.{List, [], ◌∷◌, ◌++◌, flat_map}
use Rattle.std.specs.Prelude.{Option, None, Some}
use lib.ListN.{length, drop, length-append, replicate-append-replicate}
use Rattle.priors.specs.Rows.{Row}
use Rattle.entries.specs.Entries.{rows, bytes_of}
use Rattle.book.specs.Path.{Steps, path_of}
use Rattle.book.specs.Changes.{add_rows}
use Rattle.book.specs.Calls.{Machine, state_after, book_after, zeros, book_of, unless_refused, fresh, open_number, open_state, open_book, open_queue, rows_after, queue_with, add_state, add_book, add_queue}
use Rattle.book.specs.Batches.{Batched, lent_path, places_in, batched, next_number, with_path, batch_of, batch_told}
use Rattle.book.specs.Tidy.{kept, state_tidied, tidy_state, tidy_book}
use Rattle.book.specs.Recount.{enter_all, listing, window_part, rows_of, held, book_image, places_image, queue_image}
use Rattle.book.specs.Figures.{All}
use Rattle.book.specs.Claims.{BookCall, opening, add, add_paths, tidy, reopened, book_step, Recount, since, open_refusal, add_refusal, restarted, joined, joined_by, tidied, state_image, recount_step, image, IsOpening, InBytes}
use Rattle.book.proofs.Step.{rows_step}
use Rattle.book.proofs.PathLaws.{all_bytes}
use Rattle.book.proofs.QueueImage.{leaving_image, queue_step}
use Rattle.book.proofs.BookImage.{length_image, book_step_lem}
use Rattle.book.proofs.BaseLaws.{drop_before}
use Rattle.book.proofs.KeepLaws.{kept_window}
use Rattle.book.proofs.Kept.{Kept, open_sizes, add_taken, path_whole, since_ends, since_ranks, since_joined, kept_restarted, kept_joined, kept_step}
use Rattle.book.proofs.GoingLaws.{formed_number}
use Rattle.book.proofs.BatchLaws.{lent_bytes, seen_as, batch_alike}
use Rattle.book.proofs.Simulation.{Alike}
use Rattle.book.proofs.RefusalLaws.{open_number_lem}
use Rattle.book.proofs.FormImage.{book_size_lem, rows_are, in_form_lem, add_number_lem, tidy_number_lem}

-- ---- an opening

places_empty : (W n : ℕ) → places_image W [] n ≡ zeros (516 * n)
unfolding places_image held
places_empty W zero = refl
places_empty W (suc n) =
    let e : 516 * n + 516 ≡ 516 * suc n = omega arith in
    ap (λ (l : List ℕ). l ++ zeros 516) (places_empty W n) ∙ replicate-append-replicate {A = ℕ} (516 * n) 516 0 ∙ ap zeros e

-- zeros stand for no paths
pub image_restarted : (w b q : ℕ) → 516 * w ≤ q → image (restarted w b q) ≡ record { state = fresh w; book = zeros b; queue = zeros q }
unfolding image book_of queue_image rows_of listing enter_all flat_map bytes_of
image_restarted w b q h =
    let book : b - 0 ≡ b = omega arith in
    let queue : 516 * w + (q - 516 * w) ≡ q = omega arith in
    let places : places_image w [] w ++ zeros (q - 516 * w) ≡ zeros q =
    ap (λ (l : List ℕ). l ++ zeros (q - 516 * w)) (places_empty w w) ∙ replicate-append-replicate {A = ℕ} (516 * w) (q - 516 * w) 0 ∙ ap zeros queue in
    λ i. record { state = fresh w; book = zeros (book i); queue = places i }

-- what is left is the image of what the recount keeps, taken or refused
unless_image : {X Y : Type 0} (f : Y → X) (m n : ℕ) (x y : X) (a b : Y) → m ≡ n → (n ≡ 0 → x ≡ f a) → y ≡ f b → unless_refused m x y ≡ f (unless_refused n a b)
unless_image f m n x y a b e h i = ap (λ (k : ℕ). unless_refused k x y) e ∙ go n h
  where
    go : (n : ℕ) → (n ≡ 0 → x ≡ f a) → unless_refused n x y ≡ f (unless_refused n a b)
    go zero h = h refl
    go (suc n) h = i

-- two calls that are refused by one number, and where they are not, and where they are, come to the same
unless_same : {X : Type 0} (m n : ℕ) (x y a b : X) → m ≡ n → (n ≡ 0 → x ≡ a) → y ≡ b → unless_refused m x y ≡ unless_refused n a b
unless_same m n x y a b e h i = ap (λ (k : ℕ). unless_refused k x y) e ∙ go n h
  where
    go : (n : ℕ) → (n ≡ 0 → x ≡ a) → unless_refused n x y ≡ unless_refused n a b
    go zero h = h refl
    go (suc n) h = i

module _ (m : Machine) (r : Recount) (w : ℕ) (book queue : List ℕ) where
  pub opened : (book_step m (opening w book queue)).1 ≡ unless_refused (open_number w book queue) (record { state = fresh w; book = zeros (length book); queue = zeros (length queue) }) m
  unfolding book_step open_state open_book open_queue
  opened = go (open_number w book queue)
    where
      go : (n : ℕ) → reopened (unless_refused n (Some (fresh w)) None) (unless_refused n (zeros (length book)) book) (unless_refused n (zeros (length queue)) queue) m
          ≡ unless_refused n (record { state = fresh w; book = zeros (length book); queue = zeros (length queue) }) m
      go zero = refl
      go (suc n) = refl

  zeroed : open_refusal w (length book) (length queue) ≡ 0
      → ◌≡◌ {A = Machine} (record { state = fresh w; book = zeros (length book); queue = zeros (length queue) }) (image (restarted w (length book) (length queue)))
  zeroed e = sym (image_restarted w (length book) (length queue) (open_sizes w (length book) (length queue) e).queue_sized)

  pub open_answer_lem : (book_step m (opening w book queue)).0 ≡ (recount_step r (opening w book queue)).0
  unfolding book_step open_state open_book open_queue recount_step
  open_answer_lem = λ i. record { number = number i; state = state i; taken = None; book = book_is i; queue = queue_is i }
    where
      number : open_number w book queue ≡ open_refusal w (length book) (length queue)
      number = open_number_lem w book queue

      fresh_is : Recount
      fresh_is = restarted w (length book) (length queue)

      state : unless_refused (open_number w book queue) (Some (fresh w)) None ≡ unless_refused (open_refusal w (length book) (length queue)) (Some (image fresh_is).state) None
      state = unless_same _ _ (Some (fresh w)) None (Some (image fresh_is).state) None number (λ e. ap (λ (n : Machine). Some n.state) (zeroed e)) refl

      book_is : unless_refused (open_number w book queue) (zeros (length book)) book ≡ unless_refused (open_refusal w (length book) (length queue)) (image fresh_is).book book
      book_is = unless_same _ _ (zeros (length book)) book (image fresh_is).book book number (λ e. ap (λ (n : Machine). n.book) (zeroed e)) refl

      queue_is : unless_refused (open_number w book queue) (zeros (length queue)) queue ≡ unless_refused (open_refusal w (length book) (length queue)) (image fresh_is).queue queue
      queue_is = unless_same _ _ (zeros (length queue)) queue (image fresh_is).queue queue number (λ e. ap (λ (n : Machine). n.queue) (zeroed e)) refl

  open_leaves : m ≡ image r → (book_step m (opening w book queue)).1 ≡ image (recount_step r (opening w book queue)).1
  unfolding recount_step
  open_leaves is =
      opened
      ∙ unless_image image (open_number w book queue) (open_refusal w (length book) (length queue)) _ m (restarted w (length book) (length queue)) r (open_number_lem w book queue) zeroed is

  -- an opening that is accepted, whatever there was
  open_fresh : open_refusal w (length book) (length queue) ≡ 0 → (book_step m (opening w book queue)).1 ≡ image (recount_step r (opening w book queue)).1
  unfolding recount_step
  open_fresh e =
      opened
      ∙ ap (λ (n : ℕ). unless_refused n (record { state = fresh w; book = zeros (length book); queue = zeros (length queue) }) m) (open_number_lem w book queue ∙ e)
      ∙ zeroed e
      ∙ ap (λ (n : ℕ). image (unless_refused n (restarted w (length book) (length queue)) r)) (sym e)

-- ---- an add

module _ (r : Recount) (k : Kept r) (path : List ℕ) (bytes : All (λ b. b < 256) path) where
  abbrev p : Steps
  p = path_of path

  rows_after_lem : rows_after (image r).state (image r).book (image r).queue path ≡ rows_of r.window (r.paths ++ p ∷ []) (since r ++ p ∷ [])
  unfolding rows_after image
  rows_after_lem =
      ap₂ (λ (l : Option Steps) (rs : List Row). add_rows p l rs) (leaving_image r.window (length (listing (since r))) r.paths r.queue_size k.whole k.ranks) (rows_are r k)
      ∙ sym (rows_step r.window r.paths (since r) (since_ends r k) p)

  -- what is left where it is taken
  state_with : state_after (image r).state (image r).book (image r).queue path ≡ state_image (joined r p)
  unfolding state_after image
  state_with = λ i. record { window = r.window; used = used i; accepted = accepted i }
    where
      used : length (rows_after (image r).state (image r).book (image r).queue path) ≡ length (listing (since (joined r p)))
      used = ap length rows_after_lem ∙ length_image r.window (r.paths ++ p ∷ []) (since r ++ p ∷ []) ∙ ap (λ (L : List Steps). length (listing L)) (sym (since_joined r k.early p))

      accepted : length r.paths + 1 ≡ length (r.paths ++ p ∷ [])
      accepted = omega (arith, length-append r.paths (p ∷ []))

  book_with : book_after (image r).state (image r).book (image r).queue path ≡ (image (joined r p)).book
  unfolding book_after image
  book_with =
      ap (λ (rs : List Row). bytes_of rs ++ drop (length (bytes_of rs)) (book_image r.window r.paths (since r) r.book_size)) rows_after_lem
      ∙ book_step_lem r.window r.paths (since r) r.book_size p
      ∙ ap (λ (L : List Steps). book_image r.window (r.paths ++ p ∷ []) L r.book_size) (sym (since_joined r k.early p))

  queue_with_lem : add_refusal r path ≡ 0 → queue_with (image r).state (image r).queue path ≡ (image (joined r p)).queue
  unfolding image
  queue_with_lem e =
      let t = add_taken r path e in
      queue_step r.window (length (listing (since r))) r.paths r.queue_size path k.whole (all_bytes path bytes) t.steps_whole (path_whole path t.steps_some t.steps_le)

  add_state_lem : add_state (image r).state (image r).book (image r).queue path ≡ state_image (recount_step r (add path)).1
  unfolding add_state recount_step image
  add_state_lem = unless_image state_image _ (add_refusal r path) _ (state_image r) (joined r p) r (add_number_lem r k path) (λ e. state_with) refl

  add_book_lem : add_book (image r).state (image r).book (image r).queue path ≡ (image (recount_step r (add path)).1).book
  unfolding add_book recount_step
  add_book_lem = unless_image (λ (s : Recount). (image s).book) _ (add_refusal r path) _ _ (joined r p) r (add_number_lem r k path) (λ e. book_with) refl

  add_queue_lem : add_queue (image r).state (image r).book (image r).queue path ≡ (image (recount_step r (add path)).1).queue
  unfolding add_queue recount_step
  add_queue_lem = unless_image (λ (s : Recount). (image s).queue) _ (add_refusal r path) _ _ (joined r p) r (add_number_lem r k path) queue_with_lem refl

  add_answer_lem : (book_step (image r) (add path)).0 ≡ (recount_step r (add path)).0
  unfolding book_step recount_step image
  add_answer_lem = λ i. record { number = add_number_lem r k path i; state = Some (add_state_lem i); taken = None; book = add_book_lem i; queue = add_queue_lem i }

  add_leaves : (book_step (image r) (add path)).1 ≡ image (recount_step r (add path)).1
  unfolding book_step image
  add_leaves = λ i. record { state = add_state_lem i; book = add_book_lem i; queue = add_queue_lem i }

  -- behind the test of the form, in a list of paths
  next_number_lem : next_number (image r) path ≡ add_refusal r path
  next_number_lem = sym (formed_number (image r).state (image r).book (image r).queue path (in_form_lem r k)) ∙ add_number_lem r k path

  with_image : add_refusal r path ≡ 0 → with_path (image r) path ≡ image (joined_by r path)
  unfolding with_path image
  with_image e = λ i. record { state = state_with i; book = book_with i; queue = queue_with_lem e i }

-- ---- a list of paths

module _ (r : Recount) (k : Kept r) (places : List ℕ) (bytes : All (λ b. b < 256) places) where
  batch_image : batch_of (image r) places ≡ seen_as image (batched add_refusal joined_by r places (places_in places))
  unfolding batch_of
  batch_image =
      rw (in_form_lem r k)
      (batch_alike next_number with_path add_refusal joined_by image Kept places
      (λ s j h. next_number_lem s h (lent_path places j) (lent_bytes places j bytes))
      (λ s j h e. with_image s h (lent_path places j) (lent_bytes places j bytes) e)
      (λ s j h e. kept_joined s (lent_path places j) h (lent_bytes places j bytes) (add_taken s (lent_path places j) e))
      r k (places_in places))

  batch_answer_lem : (book_step (image r) (add_paths places)).0 ≡ (recount_step r (add_paths places)).0
  unfolding book_step recount_step
  batch_answer_lem = ap batch_told batch_image

  batch_leaves : (book_step (image r) (add_paths places)).1 ≡ image (recount_step r (add_paths places)).1
  unfolding book_step recount_step
  batch_leaves = ap (λ (b : Batched Machine). b.left) batch_image

-- ---- a tidy

module _ (r : Recount) (k : Kept r) where
  -- the paths that list from then on
  part : since (tidied r) ≡ window_part r.window r.paths
  part = drop_before r.window r.paths

  rows_tidied_lem : kept (rows (image r).book (image r).state.used) ≡ rows_of r.window r.paths (since (tidied r))
  unfolding image
  rows_tidied_lem =
      ap kept (rows_are r k)
      ∙ kept_window r.window r.paths (since r) (since_ends r k) (since_ranks r k)
      ∙ ap (rows_of r.window r.paths) (sym part)

  tidy_state_lem : tidy_state (image r).state (image r).book (image r).queue ≡ state_image (tidied r)
  unfolding tidy_state state_tidied image
  tidy_state_lem =
      let used : length (kept (rows (image r).book (image r).state.used)) ≡ length (listing (since (tidied r))) =
      ap length rows_tidied_lem ∙ length_image r.window r.paths (since (tidied r)) in
      rw (tidy_number_lem r k) (λ i. record { window = r.window; used = used i; accepted = length r.paths })

  tidy_book_lem : tidy_book (image r).state (image r).book (image r).queue ≡ (image (tidied r)).book
  unfolding tidy_book image
  tidy_book_lem = rw (tidy_number_lem r k) (ap₂ book_of rows_tidied_lem (book_size_lem r k))

  tidy_answer_lem : (book_step (image r) tidy).0 ≡ (recount_step r tidy).0
  unfolding book_step recount_step image
  tidy_answer_lem = λ i. record { number = tidy_number_lem r k i; state = Some (tidy_state_lem i); taken = None; book = tidy_book_lem i; queue = (image r).queue }

  pub tidy_leaves : (book_step (image r) tidy).1 ≡ image (recount_step r tidy).1
  unfolding book_step recount_step image
  tidy_leaves = λ i. record { state = tidy_state_lem i; book = tidy_book_lem i; queue = (image r).queue }

-- ---- one call

pub step_image : (r : Recount) (c : BookCall) → Kept r → InBytes c → Alike book_step recount_step image Kept InBytes (image r) r c
step_image r (opening w book queue) k b = (open_answer_lem (image r) r w book queue, open_leaves (image r) r w book queue refl, kept_step r (opening w book queue) k b)
step_image r (add path) k b = (add_answer_lem r k path b, add_leaves r k path b, kept_step r (add path) k b)
step_image r (add_paths places) k b = (batch_answer_lem r k places b, batch_leaves r k places b, kept_step r (add_paths places) k b)
step_image r tidy k b = (tidy_answer_lem r k, tidy_leaves r k, kept_step r tidy k b)

-- an opening is answered alike whatever there was
pub opening_answer : (m : Machine) (r : Recount) (c : BookCall) → IsOpening c → (book_step m c).0 ≡ (recount_step r c).0
opening_answer m r (opening w book queue) is = open_answer_lem m r w book queue
opening_answer m r (add path) is = absurd is
opening_answer m r (add_paths places) is = absurd is
opening_answer m r tidy is = absurd is

kept_first : (r : Recount) (w : ℕ) (book queue : List ℕ) → open_refusal w (length book) (length queue) ≡ 0 → Kept (recount_step r (opening w book queue)).1
unfolding recount_step
kept_first r w book queue e = rw e (kept_restarted w (length book) (length queue) (open_sizes w (length book) (length queue) e))

-- one that is accepted leaves an image whatever there was
pub accepted_opening : (m : Machine) (r : Recount) (w : ℕ) (book queue : List ℕ) → open_refusal w (length book) (length queue) ≡ 0
    → Alike book_step recount_step image Kept InBytes m r (opening w book queue)
accepted_opening m r w book queue e = (open_answer_lem m r w book queue, open_fresh m r w book queue e, kept_first r w book queue e)
