-- The book's image: its rows are the recount's, it has the form, and an add turns it into the next image. Assumes nothing.
use mathlib.Core.Path.{◌≡◌, refl, sym, ap, ◌∙◌}
use mathlib.Core.Logic.{◌⊎◌, inl, inr}
use Prim.Native.Nat.{ℕ, zero, suc, ◌+◌, ◌-◌, ◌*◌, ◌^◌, ◌≤◌, ◌<◌}
use native.Mathlib.Nat.{div-lt_iff_lt-mul}
use native.Mathlib.Omega.{arith}
use mathlib.Core.List.{List, [], ◌∷◌, ◌++◌, map, flat_map, append-nil, append_assoc}
use mathlib.Core.Bool.{Bool, true, false, ◌||◌}
use lib.Dec.{eqb}
use lib.ListN.{length, drop, length-append, length-map, length-replicate}
use lib.Seq.{drop-append-add}
use borrow.Author.Tests.{le-leb, lt-ltb, eq-eqb}
use Rattle.priors.specs.Rows.{Row, row, keys}
use Rattle.entries.specs.Keys.{no_child, end_key, node_of, kind_of, child_of}
use Rattle.entries.specs.Entries.{rows, bytes_of, CountsUpTo}
use Rattle.book.specs.Path.{Steps, listed_keys}
use Rattle.book.specs.Form.{plain, follows, formed_after, formed}
use Rattle.book.specs.Changes.{touch_all}
use Rattle.book.specs.Calls.{zeros, book_of}
use Rattle.book.specs.Recount.{enter_all, listing, counted, rows_of, book_image}
use Rattle.book.specs.Figures.{AllRanks, AllWhole}
use Rattle.entries.proofs.EntryLaws.{InRange, AllInRange, length_bytes_of, rows_bytes_of}
use Rattle.book.proofs.Passes.{FormedAfter, Formed}
use Rattle.book.proofs.ManyRows.{keys_touches, enter_all-append}
use Rattle.book.proofs.Image.{keys_rows}
use Rattle.book.proofs.Sums.{counted_small}
use Rattle.book.proofs.Membership.{In, in_head, in_tail}
use Rattle.book.proofs.ListingForm.{EndOrChild, kind_end, child_end_is, listed_sort, node_ranked, formed_rows}
use Rattle.book.proofs.DryRun.{length_touched}

-- ---- lengths

pub length_image : (W : ℕ) (H L : List Steps) → length (rows_of W H L) ≡ length (listing L)
unfolding rows_of
length_image W H L = length-map (listing L) (λ k. row k (counted W H k))

flat_map_snoc : (f : Steps → List ℕ) (H : List Steps) (p : Steps) → flat_map f (H ++ p ∷ []) ≡ flat_map f H ++ f p
unfolding flat_map
flat_map_snoc f [] p = append-nil (f p)
flat_map_snoc f (q ∷ H) p = ap (λ (l : List ℕ). f q ++ l) (flat_map_snoc f H p) ∙ sym (append_assoc (f q) (flat_map f H) (f p))

pub listing_step : (H : List Steps) (p : Steps) → listing (H ++ p ∷ []) ≡ enter_all (listed_keys p) (listing H)
unfolding listing
listing_step H p = rw (flat_map_snoc, enter_all-append)

-- what 12 looks at
pub length_listing : (W : ℕ) (H L : List Steps) (p : Steps) → length (touch_all (listed_keys p) (rows_of W H L)) ≡ length (listing (L ++ p ∷ []))
length_listing W H L p =
    sym (length-map (touch_all (listed_keys p) (rows_of W H L)) (λ (r : Row). r.key))
    ∙ ap length (keys_touches (listed_keys p) (rows_of W H L) ∙ ap (enter_all (listed_keys p)) (keys_rows W H L) ∙ sym (listing_step L p))

-- no row goes away
pub listing_grows : (L : List Steps) (p : Steps) → length (listing L) ≤ length (listing (L ++ p ∷ []))
listing_grows L p = omega (arith, length_image 0 L L, length_listing 0 L L p, length_touched (listed_keys p) (rows_of 0 L L))

pub listings_grow : (G H : List Steps) → length (listing G) ≤ length (listing (G ++ H))
listings_grow G [] = rw append-nil (omega arith)
listings_grow G (p ∷ H) = rw (← append_assoc G (p ∷ []) H) (omega (arith, listing_grows G p, listings_grow (G ++ p ∷ []) H))

pub length_book : (W : ℕ) (H L : List Steps) (size : ℕ) → 24 * length (listing L) ≤ size → length (book_image W H L size) ≡ size
unfolding book_of
length_book W H L size h =
    let front : List ℕ = bytes_of (rows_of W H L) in
    length-append front (zeros (size - length front))
    ∙ omega (arith, length_bytes_of (rows_of W H L), length_image W H L, length-replicate {A = ℕ} (size - length front) 0)

-- ---- the rows that the bytes spell

-- a key whose node is a rank is the key of an entry
key_in_range : (k : ℕ) → node_of k < 2 ^ 64 → k < 2 ^ 160
unfolding node_of
key_in_range k h = (div-lt_iff_lt-mul {k = 2 ^ 96} {x = k} {y = 2 ^ 64} (omega arith)).0 h

in_range : (f : ℕ → ℕ) (ks : List ℕ) → ((k : ℕ) → In k ks → InRange (row k (f k))) → AllInRange (map (λ k. row k (f k)) ks)
in_range f [] h = tt
in_range f (k ∷ ks) h = (h k (in_head k k ks refl), in_range f ks (λ j i. h j (in_tail j k ks i)))

module _ (W : ℕ) (H L : List Steps) (whole : AllWhole H) (few : length H ≤ 16777216) (ranks : AllRanks L) where
  counts_le : (k : ℕ) → counted W H k ≤ 2 ^ 30
  counts_le k = omega (arith, counted_small W H k whole)

  pub rows_in_range : AllInRange (rows_of W H L)
  unfolding rows_of
  rows_in_range = in_range (counted W H) (listing L) (λ k i. record { key_fits = key_in_range k (node_ranked L ranks k i); count_fits = omega (arith, counts_le k) })

  pub rows_image : (size : ℕ) → rows (book_image W H L size) (length (listing L)) ≡ rows_of W H L
  unfolding book_of
  rows_image size =
      ap (rows (book_image W H L size)) (sym (length_image W H L))
      ∙ rows_bytes_of (rows_of W H L) (zeros (size - length (bytes_of (rows_of W H L)))) rows_in_range

-- ---- the form

plain_row : (k c : ℕ) → EndOrChild k → c ≤ 2 ^ 30 → plain (row k c) ≡ true
unfolding plain
plain_row k c (inl e) l =
    let kind : kind_of k ≡ 0 = ap kind_of e ∙ kind_end (node_of k) in
    let child : child_of k ≡ no_child = ap child_of e ∙ child_end_is (node_of k) in
    rw (kind, le-leb c (2 ^ 30) l, eq-eqb (child_of k) no_child child)
plain_row k c (inr e) l = rw (e, le-leb c (2 ^ 30) l)

follows_row : (a : ℕ) (r : Row) → a < r.key → (node_of a ≡ node_of r.key) ⊎ (r.key ≡ end_key (node_of r.key)) → follows a r ≡ true
unfolding follows
follows_row a r l (inl e) = rw (lt-ltb a r.key l, eq-eqb (node_of a) (node_of r.key) e)
follows_row a r l (inr e) =
    let kind : kind_of r.key ≡ 0 = ap kind_of e ∙ kind_end (node_of r.key) in
    rw (lt-ltb a r.key l, kind) (go (eqb (node_of a) (node_of r.key)))
  where
    go : (b : Bool) → b || true ≡ true
    go true = refl
    go false = refl

formed_after_lem : (a : ℕ) (rs : List Row) → FormedAfter a (keys rs) → ((k : ℕ) → In k (keys rs) → EndOrChild k) → CountsUpTo (2 ^ 30) rs → formed_after a rs ≡ true
unfolding formed_after
formed_after_lem a [] h p c = refl
formed_after_lem a (r ∷ rs) h p c =
    rw (plain_row r.key r.count (p r.key (in_head r.key r.key (keys rs) refl)) c.0, follows_row a r h.0 h.1)
    (formed_after_lem r.key rs h.2 (λ j i. p j (in_tail j r.key (keys rs) i)) c.1)

-- rows whose keys have the form of a book's
pub formed_of : (rs : List Row) → Formed (keys rs) → ((k : ℕ) → In k (keys rs) → EndOrChild k) → CountsUpTo (2 ^ 30) rs → formed rs ≡ true
unfolding formed
formed_of [] h p c = refl
formed_of (r ∷ rs) h p c =
    let kind : kind_of r.key ≡ 0 = ap kind_of h.0 ∙ kind_end (node_of r.key) in
    rw (plain_row r.key r.count (p r.key (in_head r.key r.key (keys rs) refl)) c.0, kind)
    (formed_after_lem r.key rs h.1 (λ j i. p j (in_tail j r.key (keys rs) i)) c.1)

counts_map : (f : ℕ → ℕ) (ks : List ℕ) (m : ℕ) → ((k : ℕ) → f k ≤ m) → CountsUpTo m (map (λ k. row k (f k)) ks)
counts_map f [] m h = tt
counts_map f (k ∷ ks) m h = (h k, counts_map f ks m h)

counts_image : (W : ℕ) (H L : List Steps) → AllWhole H → length H ≤ 16777216 → AllRanks L → CountsUpTo (2 ^ 30) (rows_of W H L)
unfolding rows_of
counts_image W H L whole few ranks = counts_map (counted W H) (listing L) (2 ^ 30) (counts_le W H L whole few ranks)

pub formed_image : (W : ℕ) (H L : List Steps) → AllWhole H → length H ≤ 16777216 → AllRanks L → formed (rows_of W H L) ≡ true
formed_image W H L whole few ranks =
    formed_of (rows_of W H L) (formed_rows W H L ranks) (λ k i. listed_sort L ranks k (rw (keys_rows W H L) at i)) (counts_image W H L whole few ranks)

-- ---- an add

drop_zeros : (k n : ℕ) → drop k (zeros n) ≡ zeros (n - k)
drop_zeros zero n = let e : n ≡ n - 0 = omega arith in ap zeros e
drop_zeros (suc k) zero = let e : 0 ≡ 0 - suc k = omega arith in ap zeros e
drop_zeros (suc k) (suc n) = let e : n - k ≡ suc n - suc k = omega arith in drop_zeros k n ∙ ap zeros e

-- the entries with one more path, and the bytes behind them as they were
pub book_step_lem : (W : ℕ) (H L : List Steps) (size : ℕ) (p : Steps)
    → let rs = rows_of W (H ++ p ∷ []) (L ++ p ∷ []) in bytes_of rs ++ drop (length (bytes_of rs)) (book_image W H L size) ≡ book_image W (H ++ p ∷ []) (L ++ p ∷ []) size
unfolding book_of
book_step_lem W H L size p =
    let rs : List Row = rows_of W (H ++ p ∷ []) (L ++ p ∷ []) in
    let front : List ℕ = bytes_of (rows_of W H L) in
    let n : ℕ = length front in
    let more : ℕ = length (bytes_of rs) - n in
    let at : length (bytes_of rs) ≡ n + more =
    omega (arith, length_bytes_of (rows_of W H L), length_image W H L, length_bytes_of rs, length_image W (H ++ p ∷ []) (L ++ p ∷ []), listing_grows L p) in
    let left : size - n - more ≡ size - length (bytes_of rs) = omega arith in
    ap (λ (l : List ℕ). bytes_of rs ++ l)
    (ap (λ (k : ℕ). drop k (front ++ zeros (size - n))) at
    ∙ drop-append-add front (zeros (size - n)) more
    ∙ drop_zeros more (size - n)
    ∙ ap zeros left)
