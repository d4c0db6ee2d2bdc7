-- The image of a recount within the limits has the form, so that 9 never comes, an add to it gets the recount's number, and a tidy none. Assumes nothing.
use mathlib.Core.Path.{◌≡◌, ap, ◌∙◌}
use Prim.Native.Nat.{ℕ, ◌*◌, ◌/◌, ◌%◌, min}
use native.Mathlib.Omega.{arith}
use mathlib.Core.List.{List, [], ◌∷◌, ◌++◌}
use mathlib.Core.Bool.{true}
use lib.ListN.{length}
use borrow.Author.Tests.{le-leb, eq-eqb}
use Rattle.priors.specs.Rows.{Row}
use Rattle.entries.specs.Entries.{rows}
use Rattle.book.specs.Path.{Steps, path_of, listed_keys}
use Rattle.book.specs.Form.{queue_fits, state_fits, in_form}
use Rattle.book.specs.Changes.{touch_all}
use Rattle.book.specs.Calls.{add_number}
use Rattle.book.specs.Tidy.{tidy_number}
use Rattle.book.specs.Recount.{listing, rows_of, book_image, queue_image}
use Rattle.book.specs.Claims.{Recount, since, add_refusal, image}
use Rattle.book.proofs.QueueImage.{length_queue, lengths_fit_lem}
use Rattle.book.proofs.BookImage.{length_listing, length_book, rows_image, formed_image}
use Rattle.book.proofs.Kept.{Kept, since_ranks}
use Rattle.book.proofs.RefusalLaws.{book_fits_lem, path_fits}

module _ (r : Recount) (k : Kept r) where
  pub book_size_lem : length (book_image r.window r.paths (since r) r.book_size) ≡ r.book_size
  book_size_lem = length_book r.window r.paths (since r) r.book_size (omega (arith, k.listed_le))

  queue_size_lem : length (queue_image r.window r.paths r.queue_size) ≡ r.queue_size
  queue_size_lem = length_queue r.window r.paths r.queue_size k.whole k.sizes.queue_sized

  pub rows_are : rows (book_image r.window r.paths (since r) r.book_size) (length (listing (since r))) ≡ rows_of r.window r.paths (since r)
  rows_are = rows_image r.window r.paths (since r) k.whole k.paths_le (since_ranks r k) r.book_size

  pub in_form_lem : in_form (image r).state (image r).book (image r).queue ≡ true
  unfolding in_form state_fits queue_fits image
  in_form_lem =
      let s = k.sizes in
      let n : ℕ = length r.paths in
      let filled : ℕ = min r.window n in
      rw (book_fits_lem (book_image r.window r.paths (since r) r.book_size), book_size_lem, queue_size_lem, rows_are)
      (rw (le-leb 24 r.book_size s.book_some, eq-eqb (r.book_size % 24) 0 s.book_whole, le-leb r.book_size (24 * 16384) s.book_le)
      (rw (le-leb r.window 1024 s.window_le, le-leb (length (listing (since r))) (r.book_size / 24) k.listed_le, le-leb n 16777216 k.paths_le)
      (rw (le-leb (516 * r.window) r.queue_size s.queue_sized, formed_image r.window r.paths (since r) k.whole k.paths_le (since_ranks r k))
      (lengths_fit_lem r.window r.paths r.queue_size k.whole filled (omega arith) (omega arith)))))

  pub add_number_lem : (path : List ℕ) → add_number (image r).state (image r).book (image r).queue path ≡ add_refusal r path
  unfolding add_number add_refusal image
  add_number_lem path =
      let p : Steps = path_of path in
      let listed : length (touch_all (listed_keys p) (rows (book_image r.window r.paths (since r) r.book_size) (length (listing (since r))))) ≡ length (listing (since r ++ p ∷ [])) =
      ap (λ (rs : List Row). length (touch_all (listed_keys p) rs)) rows_are ∙ length_listing r.window r.paths (since r) p in
      rw (in_form_lem, book_size_lem, listed, path_fits path)

  pub tidy_number_lem : tidy_number (image r).state (image r).book (image r).queue ≡ 0
  unfolding tidy_number
  tidy_number_lem = rw in_form_lem
