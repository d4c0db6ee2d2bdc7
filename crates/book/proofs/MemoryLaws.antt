-- Adds after an opening: paths within the limits are all taken where the book has as many entries as they need, and where it has fewer some add is answered 12 and each
-- that is not is taken. Shown of the recount, whose 12 looks at what is listed; the machine answers as it does. Assumes nothing.
use mathlib.Core.Path.{◌≡◌, refl, sym, ap, ◌∙◌}
use mathlib.Core.Logic.{◌⊎◌, inl, inr}
use Prim.Native.Nat.{ℕ, ◌+◌, ◌*◌, ◌/◌, ◌%◌, ◌≤◌, ◌<◌}
use native.Mathlib.Omega.{arith}
use mathlib.Core.List.{List, [], ◌∷◌, ◌++◌, append-nil, append_assoc}
use mathlib.Core.Bool.{Bool, true, false, cond}
use lib.Dec.{leb, eqb}
use lib.ListN.{length, drop, length-append}
use borrow.Author.Tests.{le-leb, eq-eqb}
use Rattle.book.specs.Path.{Steps, step_bytes}
use Rattle.book.specs.Calls.{Machine, unless_refused}
use Rattle.book.specs.Recount.{listing}
use Rattle.book.specs.Figures.{All, Whole, AllWhole, Ranks, AllRanks}
use Rattle.book.specs.Claims.{opening, add, runs, book_step, Recount, since, open_refusal, add_refusal, restarted, joined, image, recount_step, InBytes}
use Rattle.book.specs.Memory.{among, least, adds, numbers, AllTaken, SomeTwelve}
use Rattle.book.proofs.PathLaws.{path_back, steps_in_bytes}
use Rattle.book.proofs.RefusalLaws.{add_fits}
use Rattle.book.proofs.BookImage.{listings_grow}
use Rattle.book.proofs.Kept.{Kept, open_sizes, kept_restarted}
use Rattle.book.proofs.Simulation.{Alike, AllAlike, runs_after, runs_image}
use Rattle.book.proofs.Claimed.{step_image, accepted_opening}
use Rattle.book.proofs.LeastLaws.{listing_least}

-- ---- one add, where no tidy came

add_first : (r : Recount) (p : Steps) → r.base ≡ 0 → Whole p → Ranks p → length r.paths < 16777216 → add_refusal r (step_bytes p) ≡ cond (leb (length (listing (r.paths ++ p ∷ []))) (r.book_size / 24)) 0 12
add_first r p z w h l = add_fits r p w h l ∙ ap (λ (b : ℕ). cond (leb (length (listing (drop b r.paths ++ p ∷ []))) (r.book_size / 24)) 0 12) z

-- ---- adds, one after another

adds_in_bytes : (L : List Steps) → All InBytes (adds L)
adds_in_bytes [] = tt
adds_in_bytes (p ∷ L) = (steps_in_bytes p, adds_in_bytes L)

abbrev answers : Recount → List Steps → List ℕ
answers r L = numbers (runs recount_step r (adds L)).0

taken_all : (r : Recount) (L : List Steps) → r.base ≡ 0 → AllWhole L → AllRanks L → length r.paths + length L ≤ 16777216 → length (listing (r.paths ++ L)) ≤ r.book_size / 24 → AllTaken (answers r L)
unfolding runs recount_step
taken_all r [] z w h n l = tt
taken_all r (p ∷ L) z w h n l =
    let all : length (listing ((r.paths ++ p ∷ []) ++ L)) ≤ r.book_size / 24 = rw (append_assoc r.paths (p ∷ []) L) l in
    let room : length (listing (r.paths ++ p ∷ [])) ≤ r.book_size / 24 = omega (arith, listings_grow (r.paths ++ p ∷ []) L) in
    let e : add_refusal r (step_bytes p) ≡ 0 = add_first r p z w.0 h.0 (omega arith) ∙ rw (le-leb (length (listing (r.paths ++ p ∷ []))) (r.book_size / 24) room) in
    (e, rw (e, path_back p h.0) (taken_all (joined r p) L z w.1 h.1 (omega (arith, length-append r.paths (p ∷ []))) all))

abbrev TakenOrTwelve : List ℕ → Type 0
TakenOrTwelve = All (λ n. (n ≡ 0) ⊎ (n ≡ 12))

taken_or_twelve : (r : Recount) (L : List Steps) → r.base ≡ 0 → AllWhole L → AllRanks L → length r.paths + length L ≤ 16777216 → TakenOrTwelve (answers r L)
unfolding runs recount_step
taken_or_twelve r [] z w h n = tt
taken_or_twelve r (p ∷ L) z w h n =
    go (leb (length (listing (r.paths ++ p ∷ []))) (r.book_size / 24)) (add_first r p z w.0 h.0 (omega arith))
    (taken_or_twelve (joined r p) L z w.1 h.1 (omega (arith, length-append r.paths (p ∷ [])))) (taken_or_twelve r L z w.1 h.1 (omega arith))
  where
    go : (t : Bool) → add_refusal r (step_bytes p) ≡ cond t 0 12 → TakenOrTwelve (answers (joined r p) L) → TakenOrTwelve (answers r L) → TakenOrTwelve (answers r (p ∷ L))
    go true e a b = (inl e, rw (e, path_back p h.0) a)
    go false e a b = (inr e, rw e b)

none_twelve : (ns : List ℕ) → TakenOrTwelve ns → among eqb 12 ns ≡ false → AllTaken ns
unfolding among
none_twelve [] h e = tt
none_twelve (n ∷ ns) h e = go h.0 (none_twelve ns h.1)
  where
    go : (n ≡ 0) ⊎ (n ≡ 12) → (among eqb 12 ns ≡ false → AllTaken ns) → AllTaken (n ∷ ns)
    go (inl q) ih = (q, ih (rw q at e))
    go (inr q) ih = let yes : true ≡ false = rw q at e in let z : ◌≡◌ {A = ℕ} 0 1 = cc in absurd (omega arith)

-- an add that is taken joins its path
joins : (r : Recount) (p : Steps) → Ranks p → add_refusal r (step_bytes p) ≡ 0 → (recount_step r (add (step_bytes p))).1 ≡ joined r p
unfolding recount_step
joins r p h e = rw (e, path_back p h)

-- where all are taken, all have joined
all_joined : (r : Recount) (L : List Steps) → r.base ≡ 0 → AllRanks L → AllTaken (answers r L) → (since (runs recount_step r (adds L)).1 ≡ r.paths ++ L) × ((runs recount_step r (adds L)).1.book_size ≡ r.book_size)
unfolding runs recount_step
all_joined r [] z h t = (rw z (sym (append-nil r.paths)), refl)
all_joined r (p ∷ L) z h t =
    let one : (recount_step r (add (step_bytes p))).1 ≡ joined r p = joins r p h.0 t.0 in
    let left : (runs recount_step r (adds (p ∷ L))).1 ≡ (runs recount_step (joined r p) (adds L)).1 = ap (λ (s : Recount). (runs recount_step s (adds L)).1) one in
    let rest = all_joined (joined r p) L z h.1 (rw one at t.1) in
    (ap since left ∙ rest.0 ∙ append_assoc r.paths (p ∷ []) L, ap (λ (s : Recount). s.book_size) left ∙ rest.1)

kept_adds : (r : Recount) → Kept r → (L : List Steps) → Kept (runs recount_step r (adds L)).1
kept_adds r k L = (runs_image book_step recount_step image Kept InBytes step_image r (adds L) k (adds_in_bytes L)).2

some_twelve : (r : Recount) → Kept r → (L : List Steps) → r.base ≡ 0 → AllWhole L → AllRanks L → length r.paths + length L ≤ 16777216 → r.book_size / 24 < length (listing (r.paths ++ L))
    → among eqb 12 (answers r L) ≡ true
some_twelve r k L z w h n l = go (among eqb 12 (answers r L)) refl
  where
    go : (t : Bool) → among eqb 12 (answers r L) ≡ t → t ≡ true
    go true e = refl
    go false e =
        let j = all_joined r L z h (none_twelve (answers r L) (taken_or_twelve r L z w h n) e) in
        absurd (omega (arith, (kept_adds r k L).listed_le, ap (λ (H : List Steps). length (listing H)) j.0, ap (λ (b : ℕ). b / 24) j.1))

-- ---- the machine, from an accepted opening on

module _ (m : Machine) (w : ℕ) (book queue : List ℕ) (e : open_refusal w (length book) (length queue) ≡ 0) (L : List Steps) where
  abbrev opened : Recount
  opened = restarted w (length book) (length queue)

  opened_kept : Kept opened
  opened_kept = kept_restarted w (length book) (length queue) (open_sizes w (length book) (length queue) e)

  -- it answers and leaves what the recount does
  alike : AllAlike book_step recount_step image Kept InBytes m opened (opening w book queue ∷ adds L)
  alike =
      let one : Alike book_step recount_step image Kept InBytes m opened (opening w book queue) = accepted_opening m opened w book queue e in
      runs_after book_step recount_step image Kept InBytes step_image m opened (opening w book queue) one (adds L)
      (runs_image book_step recount_step image Kept InBytes step_image (recount_step opened (opening w book queue)).1 (adds L) one.2 (adds_in_bytes L))

  machine_numbers : numbers (runs book_step m (opening w book queue ∷ adds L)).0 ≡ 0 ∷ answers opened L
  unfolding runs recount_step
  machine_numbers = ap numbers alike.0 ∙ rw e

  machine_left : (runs book_step m (opening w book queue ∷ adds L)).1 ≡ image (runs recount_step opened (adds L)).1
  unfolding runs recount_step
  machine_left = alike.1 ∙ ap (λ (n : ℕ). image (runs recount_step (unless_refused n opened opened) (adds L)).1) e

-- ---- a book of n entries

module _
    (m : Machine)
    (w : ℕ)
    (book queue : List ℕ)
    (n : ℕ)
    (window-le : w ≤ 1024)
    (queue-serves : 516 * w ≤ length queue)
    (some : 1 ≤ n)
    (most : n ≤ 16384)
    (size : length book ≡ 24 * n)
    (L : List Steps)
    (whole : AllWhole L)
    (ranks : AllRanks L)
    (number : length L ≤ 16777216)
  where
    opens : open_refusal w (length book) (length queue) ≡ 0
    unfolding open_refusal
    opens =
        let b : ℕ = length book in
        rw (le-leb w 1024 window-le, le-leb 24 b (omega arith), eq-eqb (b % 24) 0 (omega arith), le-leb b (24 * 16384) (omega arith), le-leb (516 * w) (length queue) queue-serves)

    abbrev r : Recount
    r = opened m w book queue opens L

    -- with as many as they need all are taken, and that many are used
    pub serves : least L ≤ n → AllTaken (numbers (runs book_step m (opening w book queue ∷ adds L)).0) × ((runs book_step m (opening w book queue ∷ adds L)).1.state.used ≡ least L)
    unfolding image
    serves l =
        let taken : AllTaken (answers r L) = taken_all r L refl whole ranks (omega arith) (omega (arith, listing_least L ranks)) in (
          rw (machine_numbers m w book queue opens L) (refl, taken),
          ap (λ (s : Machine). s.state.used) (machine_left m w book queue opens L) ∙ ap (λ (H : List Steps). length (listing H)) (all_joined r L refl ranks taken).0 ∙ listing_least L ranks,
        )

    -- with fewer some add is answered 12, and each that is not is taken
    pub lacks : n < least L → SomeTwelve (numbers (runs book_step m (opening w book queue ∷ adds L)).0)
    lacks l =
        rw (machine_numbers m w book queue opens L)
        (refl, some_twelve r (opened_kept m w book queue opens L) L refl whole ranks (omega arith) (omega (arith, listing_least L ranks)), taken_or_twelve r L refl whole ranks (omega arith))
