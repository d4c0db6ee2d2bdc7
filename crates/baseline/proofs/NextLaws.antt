-- The next path of a sequence, told of what a training lends: it is refused, or the book holds it, as the recount has it; and what it makes of the values. Assumes nothing.
use mathlib.Core.Path.{◌≡◌, sym, ap, ◌∙◌}
use mathlib.Core.Bool.{Bool, true, false}
use Prim.Native.Nat.{ℕ, suc, ◌+◌, ◌*◌, ◌^◌, ◌≤◌, ◌<◌}
use native.Mathlib.Omega.{arith}
use mathlib.Core.List.{List}
use Rattle.std.specs.Prelude.{Option, if◌then◌else◌}
use lib.Dec.{leb}
use lib.ListN.{length}
use lib.Ieee.{Float}
use Rattle.priors.specs.declared.addresses.Address.{Address}
use Rattle.priors.specs.declared.refusals.Reason.{Reason}
use Rattle.priors.specs.Refusals.{reason_number}
use Rattle.entries.specs.Limits.{max_count}
use Rattle.entries.specs.Entries.{rows, Rewritten, CountsUpTo}
use Rattle.entries.proofs.BookLaws.{counts_rise}
use Rattle.book.specs.Path.{path_of, whole_path, listed_keys, counted_keys}
use Rattle.book.specs.Figures.{Ranks}
use Rattle.book.specs.Form.{capacity}
use Rattle.book.specs.Changes.{EndingsListed, touch_all, bump_all}
use Rattle.book.specs.Batches.{path_in}
use Rattle.baseline.specs.declared.training.Training.{Training}
use Rattle.baseline.specs.Training.{Until, stopped, reached, sequence_records}
use Rattle.baseline.specs.Courses.{lent_in, input_in, Holds, path_number, one_path, entered}
use Rattle.baseline.proofs.InputLaws.{rate_in, paths_in}
use Rattle.baseline.proofs.CourseLaws.{left, all_left, none_left, path_stops, path_goes}
use Rattle.baseline.proofs.HoldLaws.{held_endings, held_counts, not_whole, no_room, taken, room_fits, held_next}
use Rattle.baseline.proofs.AnswerLaws.{ten_refuses}

module _ (t : Training) (q i : ℕ) (below : i < t.sequences.paths) where
  few : i ≤ 65536
  few = omega (arith, paths_in t, below)

  module _ (book : List ℕ) (used : ℕ) (h : Holds t.sequences.places.now (q * t.sequences.paths) i book used) where
    pub next_endings : EndingsListed (rows book used)
    next_endings = held_endings t.sequences.places.now (q * t.sequences.paths) i few book used h

    pub next_counts : CountsUpTo (2 ^ 31) (rows book used)
    next_counts = counts_rise max_count (2 ^ 31) (rows book used) (omega arith) (held_counts t.sequences.places.now (q * t.sequences.paths) i few book used h)

    module _ (path : List ℕ) (lent : path ≡ path_in t.sequences.places.now (q * t.sequences.paths + i)) where
      pub next_refused : (r : Reason) → reason_number r ≡ (if whole_path path then 0 else 10) → path_number t.sequences.places.now (q * t.sequences.paths) i (length book) ≡ reason_number r
      next_refused r e =
          let ten = ten_refuses r (whole_path path) e in
          not_whole t.sequences.places.now (q * t.sequences.paths) i few book used h (ap whole_path (sym lent) ∙ ten.0) ∙ sym ten.1

      module _ (whole : whole_path path ≡ true) (room : Bool) (room-is : room ≡ leb (length (touch_all (listed_keys (path_of path)) (rows book used))) (capacity book)) where
        pub next_full : room ≡ false → path_number t.sequences.places.now (q * t.sequences.paths) i (length book) ≡ 12
        next_full = no_room t.sequences.places.now (q * t.sequences.paths) i few book used h (rw lent at whole) room (rw lent at room-is)

        module _ (fits : room ≡ true) where
          pub next_room : 24 * length (touch_all (listed_keys (path_of path)) (rows book used)) ≤ length book
          next_room = rw lent (room_fits t.sequences.places.now (q * t.sequences.paths) i few book used h (rw lent at whole) room (rw lent at room-is) fits)

          pub next_held : Ranks (path_of path) → (after : List ℕ) (n : ℕ) → length after ≡ length book
              → Rewritten book after n (bump_all (counted_keys (path_of path)) (touch_all (listed_keys (path_of path)) (rows book used)))
              → (path_number t.sequences.places.now (q * t.sequences.paths) i (length after) ≡ 0) × Holds t.sequences.places.now (q * t.sequences.paths) (suc i) after n
          next_held ranks after n same written =
              let number : path_number t.sequences.places.now (q * t.sequences.paths) i (length after) ≡ 0 =
              rw same (taken t.sequences.places.now (q * t.sequences.paths) i few book used h (rw lent at whole) room (rw lent at room-is) fits) in
              (number, held_next t.sequences.places.now (q * t.sequences.paths) i few book used h (rw lent at whole) room (rw lent at room-is) fits (rw lent at ranks) after n same (rw lent at written))

-- ---- the values

-- what is still to come of the sequence numbered q, from the path numbered i on
module _ (t : Training) (q size : ℕ) where
  abbrev pub run_left : ℕ → List Float → Until (List Float)
  run_left i values = left (lent_in t) (q * t.sequences.paths) size t.sequences.paths i values

  pub run_starts : (values : List Float) → run_left 0 values ≡ entered 0 (sequence_records (input_in t) size q) values
  unfolding sequence_records
  run_starts values = all_left (lent_in t) (q * t.sequences.paths) size t.sequences.paths values

  pub run_ends : (i : ℕ) → t.sequences.paths ≤ i → (values : List Float) → run_left i values ≡ reached values
  run_ends i h values = none_left (lent_in t) (q * t.sequences.paths) size t.sequences.paths i h values

  module _ (i : ℕ) (below : i < t.sequences.paths) (values : List Float) (k : ℕ) (same : k ≡ size) where
    pub run_stops : (number : ℕ) (node : Option Address) → one_path (lent_in t) (q * t.sequences.paths) i k values ≡ stopped number node → run_left i values ≡ stopped number node
    run_stops number node h = path_stops (lent_in t) (q * t.sequences.paths) size (rate_in t) t.sequences.paths i below values number node (rw same at h)

    pub run_goes : (after : List Float) → one_path (lent_in t) (q * t.sequences.paths) i k values ≡ reached after → run_left i values ≡ run_left (i + 1) after
    run_goes after h = path_goes (lent_in t) (q * t.sequences.paths) size (rate_in t) t.sequences.paths i below values after (rw same at h)
