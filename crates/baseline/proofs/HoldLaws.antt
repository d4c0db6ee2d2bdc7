-- A book that holds the first paths of a sequence: what its recount keeps, and what adding the next path makes of it. Assumes nothing.
use mathlib.Core.Path.{◌≡◌, refl, sym, ap, ap₂, ◌∙◌}
use mathlib.Core.Bool.{Bool, true, false, cond}
use Prim.Native.Nat.{ℕ, zero, suc, ◌+◌, ◌*◌, ◌/◌, ◌≤◌, ◌<◌, zero-le}
use native.Mathlib.Numerals.{add-one}
use native.Mathlib.Omega.{arith}
use mathlib.Core.List.{List, [], ◌∷◌, ◌++◌, flat_map}
use lib.Dec.{leb}
use lib.ListN.{length, length-append}
use lib.Ieee.{Float}
use borrow.Author.Tests.{lt-ltb, leb-true}
use Rattle.priors.specs.Rows.{Row, keys, Ascends}
use Rattle.entries.specs.Limits.{max_count}
use Rattle.entries.specs.Entries.{rows, Rewritten, CountsUpTo}
use Rattle.book.specs.Path.{Steps, path_of, whole_path, listed_keys, counted_keys}
use Rattle.book.specs.Form.{capacity, book_fits, formed}
use Rattle.book.specs.Changes.{EndingsListed, change_all, touch_all, bump_all, add_rows}
use Rattle.book.specs.Recount.{enter_all, listing, rows_of, window_part, sequence_length}
use Rattle.book.specs.Figures.{Ranks, Whole}
use Rattle.book.specs.Claims.{open_refusal, add_refusal}
use Rattle.book.specs.Batches.{path_in}
use Rattle.book.proofs.Passes.{leaving_path}
use Rattle.book.proofs.Window.{window_drop}
use Rattle.book.proofs.Step.{rows_step}
use Rattle.book.proofs.BookImage.{length_image, length_listing, formed_image}
use Rattle.book.proofs.FormLaws.{formed_counts}
use Rattle.book.proofs.EndingLaws.{formed_endings}
use Rattle.book.proofs.RefusalLaws.{book_fits_lem, path_fits}
use Rattle.book.proofs.Kept.{Sizes, Taken, open_sizes, add_taken, path_whole, all_snoc}
use Rattle.priors.specs.Tables.{tables_refusal}
use Rattle.priors.specs.Priors.{layer_of, priors_refusal}
use Rattle.baseline.specs.Limits.{max_paths}
use Rattle.divergence.specs.Nodes.{Node, listed_nodes}
use Rattle.divergence.specs.RecountNodes.{recount_nodes}
use Rattle.divergence.specs.Statistics.{walk}
use Rattle.divergence.specs.Readings.{stats_reading_of, stats_reading}
use Rattle.divergence.proofs.RecountNodeLaws.{listed_nodes_lem}
use Rattle.divergence.specs.declared.statistics.KLDivergenceStats.{KLDivergenceStats}
use Rattle.baseline.specs.Training.{Lent, Until, recorded, recount_stats}
use Rattle.baseline.specs.declared.training.Training.{Training}
use Rattle.baseline.specs.Courses.{lent_in, paths_of, recount_of, Holds, path_number, sampled, book_stats, one_path}
use Rattle.baseline.proofs.CourseLaws.{added_path}

-- ---- what is held

pub length_paths : (sequences : List ℕ) (first i : ℕ) → length (paths_of sequences first i) ≡ i
unfolding paths_of
length_paths sequences first zero = refl
length_paths sequences first (suc i) = omega (arith, length-append (paths_of sequences first i) (path_of (path_in sequences (first + i)) ∷ []), length_paths sequences first i)

-- the form's test of a book looks at its length alone
pub fits_same : (s t : List ℕ) → length t ≡ length s → book_fits s ≡ true → book_fits t ≡ true
unfolding book_fits
fits_same s t e h = rw e h

pub sizes_fit : (book : List ℕ) → book_fits book ≡ true → Sizes 0 (length book) 0
unfolding open_refusal
sizes_fit book h = open_sizes 0 (length book) 0 (rw (sym (book_fits_lem book) ∙ h))

module _ (sequences : List ℕ) (first i : ℕ) (few : i ≤ max_paths) (book : List ℕ) (used : ℕ) (h : Holds sequences first i book used) where
  pub few_entries : used ≤ 16384
  few_entries = let s = sizes_fit book h.book_sized in omega (arith, h.used_fit)

  pub held_formed : formed (rows book used) ≡ true
  held_formed = rw h.rows_are (formed_image 0 (paths_of sequences first i) (paths_of sequences first i) h.whole (omega (arith, length_paths sequences first i)) h.ranks)

  pub held_endings : EndingsListed (rows book used)
  held_endings = formed_endings (rows book used) held_formed

  pub held_counts : CountsUpTo max_count (rows book used)
  held_counts = formed_counts (rows book used) held_formed

  -- ---- the next path

  pub listed_is : length (touch_all (listed_keys (path_of (path_in sequences (first + i)))) (rows book used)) ≡ length (listing (paths_of sequences first i ++ path_of (path_in sequences (first + i)) ∷ []))
  listed_is = rw h.rows_are (length_listing 0 (paths_of sequences first i) (paths_of sequences first i) (path_of (path_in sequences (first + i))))

  pub not_whole : whole_path (path_in sequences (first + i)) ≡ false → path_number sequences first i (length book) ≡ 10
  unfolding add_refusal
  not_whole w = rw (sym (path_fits (path_in sequences (first + i))) ∙ w)

  module _ (whole : whole_path (path_in sequences (first + i)) ≡ true) (room : Bool)
      (room-is : room ≡ leb (length (touch_all (listed_keys (path_of (path_in sequences (first + i)))) (rows book used))) (capacity book)) where
    number_is : path_number sequences first i (length book) ≡ cond room 0 12
    unfolding add_refusal
    number_is =
        let few-paths : length (paths_of sequences first i) < 16777216 = omega (arith, length_paths sequences first i) in
        rw (sym (path_fits (path_in sequences (first + i))) ∙ whole, lt-ltb (length (paths_of sequences first i)) 16777216 few-paths, sym listed_is, sym room-is)

    pub no_room : room ≡ false → path_number sequences first i (length book) ≡ 12
    no_room f = number_is ∙ ap (λ (b : Bool). cond b 0 12) f

    module _ (fits : room ≡ true) where
      pub taken : path_number sequences first i (length book) ≡ 0
      taken = number_is ∙ ap (λ (b : Bool). cond b 0 12) fits

      pub room_fits : 24 * length (touch_all (listed_keys (path_of (path_in sequences (first + i)))) (rows book used)) ≤ length book
      room_fits =
          let l : length (touch_all (listed_keys (path_of (path_in sequences (first + i)))) (rows book used)) ≤ length book / 24 = leb-true _ _ (sym room-is ∙ fits) in
          omega arith

      pub held_next : Ranks (path_of (path_in sequences (first + i))) → (after : List ℕ) (n : ℕ) → length after ≡ length book
          → Rewritten book after n (bump_all (counted_keys (path_of (path_in sequences (first + i)))) (touch_all (listed_keys (path_of (path_in sequences (first + i)))) (rows book used)))
          → Holds sequences first (suc i) after n
      unfolding paths_of add_rows leaving_path change_all
      held_next ranks after n same w =
          let p : Steps = path_of (path_in sequences (first + i)) in
          let paths : List Steps = paths_of sequences first i in
          let rows_next : bump_all (counted_keys p) (touch_all (listed_keys p) (rows book used)) ≡ rows_of 0 (paths ++ p ∷ []) (paths ++ p ∷ []) =
          ap (λ (rs : List Row). bump_all (counted_keys p) (touch_all (listed_keys p) rs)) h.rows_are ∙ sym (rows_step 0 paths paths (window_drop 0 paths) p) in
          let t : Taken (recount_of sequences first i (length book)) (path_in sequences (first + i)) = add_taken (recount_of sequences first i (length book)) (path_in sequences (first + i)) taken in
          let n-is : n ≡ length (listing (paths ++ p ∷ [])) = w.number_is ∙ ap length rows_next ∙ length_image 0 (paths ++ p ∷ []) (paths ++ p ∷ []) in
          record {
            book_sized = fits_same book after same h.book_sized;
            used_fit = omega (arith, room_fits, listed_is);
            rows_are = w.rows_are ∙ rows_next;
            whole = all_snoc Whole paths p h.whole (path_whole (path_in sequences (first + i)) t.steps_some t.steps_le);
            ranks = all_snoc Ranks paths p h.ranks ranks;
          }

-- in no entries a book holds no path
pub held_none : (sequences : List ℕ) (first : ℕ) (book : List ℕ) → book_fits book ≡ true → Holds sequences first 0 book 0
unfolding paths_of rows rows_of listing enter_all flat_map
held_none sequences first book h = record { book_sized = h; used_fit = zero-le; rows_are = refl; whole = tt; ranks = tt }

-- and they ascend
pub none_ascend : (book : List ℕ) → Ascends 0 (keys (rows book 0))
unfolding rows
none_ascend book = tt

-- ---- the statistics

-- no number below 9 turns what is lent back
pub record Accepted (x : Lent) : Type 0 where
  pub tables_fit : tables_refusal x.G x.D ≡ 0
  pub priors_fit : priors_refusal x.nodes x.children (layer_of x.floor) ≡ 0

-- nor what the code holds
pub accepted_in : (t : Training) → Accepted (lent_in t)
accepted_in t = record { tables_fit = t.by.tables.passed; priors_fit = ap (priors_refusal t.by.priors.nodes.now t.by.priors.children.now) t.floored ∙ t.by.priors.passed }

module _ (x : Lent) (accepted : Accepted x) (first i : ℕ) (few : i ≤ max_paths) (book : List ℕ) (used : ℕ) (h : Holds x.sequences first i book used) where
  -- the recount's are those of the book's entries
  pub stats_are : recount_stats x (recount_of x.sequences first i (length book)) ≡ book_stats x (rows book used) i
  unfolding recount_stats book_stats stats_reading sequence_length window_part
  stats_are =
      let H : List Steps = paths_of x.sequences first i in
      let nodes-are : recount_nodes 0 H H ≡ listed_nodes (rows book used) = sym (ap listed_nodes h.rows_are ∙ listed_nodes_lem 0 H H (window_drop 0 H) h.ranks) in
      rw (accepted.tables_fit, accepted.priors_fit)
      (ap₂ (λ (n : ℕ) (ns : List Node). recorded (stats_reading_of n (walk x.G x.D x.nodes x.children (layer_of x.floor) ns))) (length_paths x.sequences first i) nodes-are)

-- what one more path makes of the values, told from the book that holds it
module _ (x : Lent) (accepted : Accepted x) (first i : ℕ) (few : i < max_paths) (book : List ℕ) (used : ℕ) (h : Holds x.sequences first (suc i) book used) where
  pub path_done : path_number x.sequences first i (length book) ≡ 0 → (values : List Float)
      → one_path x first i (length book) values ≡ sampled x.rate i (book_stats x (rows book used) (i + 1)) values
  path_done e values =
      added_path x first i (length book) values e
      ∙ ap (λ (q : Until KLDivergenceStats). sampled x.rate i q values) (stats_are x accepted first (suc i) few book used h)
      ∙ ap (λ (n : ℕ). sampled x.rate i (book_stats x (rows book used) n) values) (sym (add-one i))
