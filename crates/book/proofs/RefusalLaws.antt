-- The recount's tests of lengths are those of the definitions that the code is held to; and when it gives an add of a whole path 12. Assumes nothing.
use mathlib.Core.Path.{◌≡◌}
use Prim.Native.Nat.{ℕ, ◌*◌, ◌/◌, ◌%◌, ◌≤◌, ◌<◌}
use native.Mathlib.Omega.{arith}
use mathlib.Core.List.{List, [], ◌∷◌, ◌++◌}
use mathlib.Core.Bool.{true, cond, ◌&&◌}
use lib.Dec.{leb, eqb}
use lib.ListN.{length}
use borrow.Author.Tests.{leb-true, eqb-true, le-leb, lt-ltb, eq-eqb}
use Rattle.book.specs.Path.{Steps, step_bytes, whole_path}
use Rattle.book.specs.Form.{book_fits, queue_fits}
use Rattle.book.specs.Calls.{open_number}
use Rattle.book.specs.Recount.{listing}
use Rattle.book.specs.Figures.{Whole, Ranks}
use Rattle.book.specs.Claims.{Recount, since, open_refusal, add_refusal}
use Rattle.priors.proofs.Tests.{both, answers_same}
use Rattle.book.proofs.PathLaws.{length-step_bytes, path_back}

pub book_fits_lem : (book : List ℕ) → book_fits book ≡ leb 24 (length book) && (eqb (length book % 24) 0 && leb (length book) (24 * 16384))
unfolding book_fits
book_fits_lem book = answers_same _ _ there back
  where
    n : ℕ
    n = length book

    there : eqb (n % 24) 0 && (leb 1 (n / 24) && leb (n / 24) 16384) ≡ true → leb 24 n && (eqb (n % 24) 0 && leb n (24 * 16384)) ≡ true
    there h =
        let a = both (eqb (n % 24) 0) (leb 1 (n / 24) && leb (n / 24) 16384) h in
        let b = both (leb 1 (n / 24)) (leb (n / 24) 16384) a.1 in
        let whole : n % 24 ≡ 0 = eqb-true (n % 24) 0 a.0 in
        let low : 1 ≤ n / 24 = leb-true 1 (n / 24) b.0 in
        let high : n / 24 ≤ 16384 = leb-true (n / 24) 16384 b.1 in
        rw (a.0, le-leb 24 n (omega arith), le-leb n (24 * 16384) (omega arith))

    back : leb 24 n && (eqb (n % 24) 0 && leb n (24 * 16384)) ≡ true → eqb (n % 24) 0 && (leb 1 (n / 24) && leb (n / 24) 16384) ≡ true
    back h =
        let a = both (leb 24 n) (eqb (n % 24) 0 && leb n (24 * 16384)) h in
        let b = both (eqb (n % 24) 0) (leb n (24 * 16384)) a.1 in
        let low : 24 ≤ n = leb-true 24 n a.0 in
        let high : n ≤ 24 * 16384 = leb-true n (24 * 16384) b.1 in
        rw (b.0, le-leb 1 (n / 24) (omega arith), le-leb (n / 24) 16384 (omega arith))

pub path_fits : (path : List ℕ) → whole_path path ≡ leb 8 (length path) && (leb (length path) 512 && eqb (length path % 8) 0)
unfolding whole_path
path_fits path = answers_same _ _ there back
  where
    n : ℕ
    n = length path

    there : eqb (n % 8) 0 && (leb 1 (n / 8) && leb (n / 8) 64) ≡ true → leb 8 n && (leb n 512 && eqb (n % 8) 0) ≡ true
    there h =
        let a = both (eqb (n % 8) 0) (leb 1 (n / 8) && leb (n / 8) 64) h in
        let b = both (leb 1 (n / 8)) (leb (n / 8) 64) a.1 in
        let whole : n % 8 ≡ 0 = eqb-true (n % 8) 0 a.0 in
        let low : 1 ≤ n / 8 = leb-true 1 (n / 8) b.0 in
        let high : n / 8 ≤ 64 = leb-true (n / 8) 64 b.1 in
        rw (a.0, le-leb 8 n (omega arith), le-leb n 512 (omega arith))

    back : leb 8 n && (leb n 512 && eqb (n % 8) 0) ≡ true → eqb (n % 8) 0 && (leb 1 (n / 8) && leb (n / 8) 64) ≡ true
    back h =
        let a = both (leb 8 n) (leb n 512 && eqb (n % 8) 0) h in
        let b = both (leb n 512) (eqb (n % 8) 0) a.1 in
        let low : 8 ≤ n = leb-true 8 n a.0 in
        let high : n ≤ 512 = leb-true n 512 b.0 in
        rw (b.1, le-leb 1 (n / 8) (omega arith), le-leb (n / 8) 64 (omega arith))

pub open_number_lem : (w : ℕ) (book queue : List ℕ) → open_number w book queue ≡ open_refusal w (length book) (length queue)
unfolding open_number open_refusal queue_fits
open_number_lem w book queue = rw (book_fits_lem book)

-- an add of a whole path, while H has fewer than 16,777,216
pub add_fits : (r : Recount) (p : Steps) → Whole p → Ranks p → length r.paths < 16777216 → add_refusal r (step_bytes p) ≡ cond (leb (length (listing (since r ++ p ∷ []))) (r.book_size / 24)) 0 12
unfolding add_refusal
add_fits r p w h l =
    let n : ℕ = length (step_bytes p) in
    let eight : n ≡ 8 * length p = length-step_bytes p in
    rw (le-leb 8 n (omega (arith, w.0)), le-leb n 512 (omega (arith, w.1)), eq-eqb (n % 8) 0 (omega arith), lt-ltb (length r.paths) 16777216 l, path_back p h)
