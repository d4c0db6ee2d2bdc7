-- The form by its tests: of an entry from its fields, of entries one after the other, of the queue's lengths; and what the form tells an add. Assumes nothing.
use mathlib.Core.Path.{◌≡◌, refl, sym, ap, ap₂, ◌∙◌}
use mathlib.Core.Bool.{Bool, true, false, ◌&&◌, ◌||◌}
use Prim.Native.Nat.{ℕ, zero, suc, ◌+◌, ◌*◌, ◌^◌, ◌≤◌, ◌<◌, zero-le}
use mathlib.Core.Logic.{◌⊎◌, inl, inr, ⊎_elim}
use native.Mathlib.Nat.{zero-add, add-zero, not-suc-le-zero, le_of_suc-le-suc, eq-or-lt_of_le}
use native.Mathlib.Numerals.{add-one}
use Rattle.std.specs.List.{list_all, range_with_len}
use native.Mathlib.Omega.{arith}
use mathlib.Core.List.{List, [], ◌∷◌}
use lib.Dec.{ltb, leb, eqb}
use lib.ListN.{length, get_or, take, drop, drop_of_length-le}
use lib.Seq.{drop-cons, ext_get_or}
use borrow.Author.Tests.{eq-eqb, ne_eqb, leb-true, ltb-true, eqb-true}
use Rattle.priors.specs.Word.{word}
use Rattle.priors.specs.Rows.{Row, row, keys, Ascends}
use Rattle.priors.specs.Search.{blank}
use Rattle.priors.proofs.BelowLaws.{first_true, second_true}
use Rattle.entries.specs.Limits.{max_count, max_steps, place_size}
use Rattle.book.specs.Figures.{All}
use Rattle.entries.specs.Keys.{key_of, end_key, node_of, kind_of, child_of, no_child, key_value}
use Rattle.entries.specs.Entries.{fields_at, key_at, row_at, rows, CountsUpTo}
use Rattle.entries.specs.declared.keys.Key.{Key}
use Rattle.book.specs.declared.trackers.Tracker.{Tracker}
use Rattle.book.specs.Form.{book_fits, queue_fits, state_fits, plain, follows, formed_after, formed, lengths_fit, filled, in_form}
use Rattle.entries.proofs.KeyLaws.{key_order, key_node, key_kind, key_child, key_parts}
use Rattle.entries.proofs.EntryLaws.{length_rows, get_d_rows, row_take}

pub and_true : (b : Bool) → b && true ≡ b
and_true true = refl
and_true false = refl

-- ---- an entry, from its fields

module _ (k : Key) (hk : k.kind < 2 ^ 32) (hc : k.child < 2 ^ 64) where
  pub kind_is : kind_of (key_value k) ≡ k.kind
  unfolding key_value
  kind_is = key_kind k.node k.kind k.child hk hc

  pub plain_is : (count : ℕ) → plain (row (key_value k) count) ≡ leb k.kind 1 && (leb count max_count && (eqb k.kind 1 || eqb k.child no_child))
  unfolding plain key_value
  plain_is count = rw (key_kind k.node k.kind k.child hk hc, key_child k.node k.kind k.child hk hc)

  pub follows_is : (l : Key) → l.kind < 2 ^ 32 → l.child < 2 ^ 64 → follows (key_value l) (row (key_value k) 0)
      ≡ (ltb l.node k.node || (eqb l.node k.node && (ltb l.kind k.kind || (eqb l.kind k.kind && ltb l.child k.child))))
      && (eqb l.node k.node || eqb k.kind 0)
  unfolding follows key_value
  follows_is l lk lc =
      rw (key_order l.node l.kind l.child k.node k.kind k.child lk lc hk hc, key_node l.node l.kind l.child lk lc, key_node k.node k.kind k.child hk hc, key_kind k.node k.kind k.child hk hc)

-- fields that are read make the row that stands there
pub row_read : (s : List ℕ) (a : ℕ) (k : Key) (count : ℕ) → k ≡ fields_at s a → count ≡ word s (a + 20) → row_at s a ≡ row (key_value k) count
unfolding row_at key_at key_value
row_read s a k count e f = rw (e, f)

-- ---- entries one after the other

module _ (s : List ℕ) (n : ℕ) where
  pub none : n ≡ 0 → true ≡ formed (rows s n)
  unfolding formed rows
  none e = rw e

  -- before the loop: the first row has the key x and the count c
  module _ (pos : 0 < n) (x c : ℕ) (is : row_at s 0 ≡ row x c) where
    formed_first : formed (rows s n) ≡ plain (row x c) && (eqb (kind_of x) 0 && formed_after x (drop 1 (rows s n)))
    unfolding formed rows
    formed_first = go n pos
      where
        go : (m : ℕ) → 0 < m → formed (rows s m) ≡ plain (row x c) && (eqb (kind_of x) 0 && formed_after x (drop 1 (rows s m)))
        go zero h = absurd (not-suc-le-zero h)
        go (suc m) h = rw is

    pub start_plain : plain (row x c) ≡ false → false ≡ formed (rows s n)
    start_plain e = rw (formed_first, e)

    pub start_ending : plain (row x c) ≡ true → (kind_of x ≡ 0 → ⊥) → false ≡ formed (rows s n)
    start_ending p e = rw (formed_first, p, ne_eqb (kind_of x) 0 e)

    pub start_on : plain (row x c) ≡ true → kind_of x ≡ 0 → formed (rows s n) ≡ formed_after x (drop 1 (rows s n))
    start_on p e = rw (formed_first, p, eq-eqb (kind_of x) 0 e)

  -- in the loop: what is left is as it was after k
  module _ (k i : ℕ) (so_far : formed (rows s n) ≡ formed_after k (drop i (rows s n))) where
    -- and its first row has the key x and the count c
    module _ (in-book : i < n) (x c : ℕ) (is : row_at s (24 * i) ≡ row x c) where
      formed_turn : formed (rows s n) ≡ plain (row x c) && (follows k (row x 0) && formed_after x (drop (i + 1) (rows s n)))
      unfolding formed_after follows
      formed_turn =
          let len : length (rows s n) ≡ n = length_rows s n in
          so_far ∙ ap (formed_after k) (drop-cons (rows s n) i blank (omega arith)) ∙ rw (get_d_rows s n i blank in-book, is, add-one i)

      pub turn_plain : plain (row x c) ≡ false → false ≡ formed (rows s n)
      turn_plain e = rw (formed_turn, e)

      pub turn_follows : plain (row x c) ≡ true → follows k (row x 0) ≡ false → false ≡ formed (rows s n)
      turn_follows p e = rw (formed_turn, p, e)

      pub turn_on : plain (row x c) ≡ true → follows k (row x 0) ≡ true → formed (rows s n) ≡ formed_after x (drop (i + 1) (rows s n))
      turn_on p f = rw (formed_turn, p, f)

    pub done : n ≤ i → true ≡ formed (rows s n)
    unfolding formed_after
    done h =
        let len : length (rows s n) ≡ n = length_rows s n in
        let past : length (rows s n) ≤ i = omega arith in
        sym (so_far ∙ ap (formed_after k) (drop_of_length-le (rows s n) past))

-- ---- the queue's lengths

-- the place numbered i holds a length
abbrev pub fits : List ℕ → ℕ → Bool
fits queue i = leb 1 (word queue (place_size * i)) && leb (word queue (place_size * i)) max_steps

range_end : (f : ℕ → Bool) (a n : ℕ) → list_all f (range_with_len a (suc n)) ≡ list_all f (range_with_len a n) && f (a + n)
range_end f a zero = and_true (f a) ∙ ap f (sym (add-zero a))
range_end f a (suc n) =
    let at : a + 1 + n ≡ a + suc n = omega arith in
    ap (λ (b : Bool). f a && b) (range_end f (a + 1) n ∙ ap (λ (k : ℕ). list_all f (range_with_len (a + 1) n) && f k) at)
    ∙ both (f a) (list_all f (range_with_len (a + 1) n)) (f (a + suc n))
  where
    both : (x y z : Bool) → x && (y && z) ≡ (x && y) && z
    both true y z = refl
    both false y z = refl

-- lengths that are looked at one after another
pub lengths_all : (queue : List ℕ) (n : ℕ) → list_all (fits queue) (range_with_len 0 n) ≡ lengths_fit queue n
unfolding lengths_fit
lengths_all queue zero = refl
lengths_all queue (suc n) = range_end (fits queue) 0 n ∙ rw (zero-add, lengths_all queue n)

-- ---- what the form tells

pub lengths_at : (queue : List ℕ) (n i : ℕ) → lengths_fit queue n ≡ true → i < n → (1 ≤ word queue (516 * i)) × (word queue (516 * i) ≤ 64)
unfolding lengths_fit
lengths_at queue zero i h l = absurd (not-suc-le-zero l)
lengths_at queue (suc n) i h l = ⊎_elim (λ e. rw e here) (λ q. lengths_at queue n i (first_true (lengths_fit queue n) low h) q) (eq-or-lt_of_le (le_of_suc-le-suc l))
  where
    low : Bool
    low = leb 1 (word queue (place_size * n)) && leb (word queue (place_size * n)) max_steps

    here : (1 ≤ word queue (516 * n)) × (word queue (516 * n) ≤ 64)
    here =
        let t : low ≡ true = second_true (lengths_fit queue n) low h in (
          leb-true 1 (word queue (place_size * n)) (first_true (leb 1 (word queue (place_size * n))) (leb (word queue (place_size * n)) max_steps) t),
          leb-true (word queue (place_size * n)) max_steps (second_true (leb 1 (word queue (place_size * n))) (leb (word queue (place_size * n)) max_steps) t),
        )

pub ascends_after_lem : (k : ℕ) (rs : List Row) → formed_after k rs ≡ true → Ascends (suc k) (keys rs)
unfolding formed_after follows
ascends_after_lem k [] h = tt
ascends_after_lem k (r ∷ rs) h =
    let f : Bool = follows k r in
    let t : f && formed_after r.key rs ≡ true = second_true (plain r) (f && formed_after r.key rs) h in
    let g : Bool = eqb (node_of k) (node_of r.key) || eqb (kind_of r.key) 0 in
    (ltb-true k r.key (first_true (ltb k r.key) g (first_true f (formed_after r.key rs) t)), ascends_after_lem r.key rs (second_true f (formed_after r.key rs) t))

pub formed_ascends : (rs : List Row) → formed rs ≡ true → Ascends 0 (keys rs)
unfolding formed
formed_ascends [] h = tt
formed_ascends (r ∷ rs) h =
    let e : Bool = eqb (kind_of r.key) 0 in
    (zero-le, ascends_after_lem r.key rs (second_true e (formed_after r.key rs) (second_true (plain r) (e && formed_after r.key rs) h)))

plain_count : (r : Row) → plain r ≡ true → r.count ≤ max_count
unfolding plain
plain_count r h =
    let t : Bool = eqb (kind_of r.key) 1 || eqb (child_of r.key) no_child in
    leb-true r.count max_count (first_true (leb r.count max_count) t (second_true (leb (kind_of r.key) 1) (leb r.count max_count && t) h))

counts_after : (k : ℕ) (rs : List Row) → formed_after k rs ≡ true → CountsUpTo max_count rs
unfolding formed_after
counts_after k [] h = tt
counts_after k (r ∷ rs) h =
    let f : Bool = follows k r in
    let t : f && formed_after r.key rs ≡ true = second_true (plain r) (f && formed_after r.key rs) h in
    (plain_count r (first_true (plain r) (f && formed_after r.key rs) h), counts_after r.key rs (second_true f (formed_after r.key rs) t))

pub formed_counts : (rs : List Row) → formed rs ≡ true → CountsUpTo max_count rs
unfolding formed
formed_counts [] h = tt
formed_counts (r ∷ rs) h =
    let e : Bool = eqb (kind_of r.key) 0 in
    (plain_count r (first_true (plain r) (e && formed_after r.key rs) h), counts_after r.key rs (second_true e (formed_after r.key rs) (second_true (plain r) (e && formed_after r.key rs) h)))

-- an ending has the key of its node's ending
pub ending_key : (r : Row) → plain r ≡ true → kind_of r.key ≡ 0 → r.key ≡ end_key (node_of r.key)
unfolding plain end_key
ending_key r h z =
    let t : Bool = eqb (kind_of r.key) 1 || eqb (child_of r.key) no_child in
    let c : t ≡ true = second_true (leb r.count max_count) t (second_true (leb (kind_of r.key) 1) (leb r.count max_count && t) h) in
    sym (key_parts r.key) ∙ ap₂ (key_of (node_of r.key)) z (eqb-true (child_of r.key) no_child (rw z at c))

-- an entry in form is an ending or a child
plain_kind : (r : Row) → plain r ≡ true → kind_of r.key ≤ 1
unfolding plain
plain_kind r h = leb-true (kind_of r.key) 1 (first_true (leb (kind_of r.key) 1) (leb r.count max_count && (eqb (kind_of r.key) 1 || eqb (child_of r.key) no_child)) h)

pub plain_sort : (r : Row) → plain r ≡ true → (r.key ≡ end_key (node_of r.key)) ⊎ (kind_of r.key ≡ 1)
plain_sort r h = go (kind_of r.key) refl
  where
    go : (k : ℕ) → kind_of r.key ≡ k → (r.key ≡ end_key (node_of r.key)) ⊎ (kind_of r.key ≡ 1)
    go zero e = inl (ending_key r h e)
    go (suc k) e = inr (omega (arith, plain_kind r h))

plain_after : (k : ℕ) (rs : List Row) → formed_after k rs ≡ true → All (λ (r : Row). plain r ≡ true) rs
unfolding formed_after
plain_after k [] h = tt
plain_after k (r ∷ rs) h =
    let f : Bool = follows k r in
    (first_true (plain r) (f && formed_after r.key rs) h, plain_after r.key rs (second_true f (formed_after r.key rs) (second_true (plain r) (f && formed_after r.key rs) h)))

pub formed_plain : (rs : List Row) → formed rs ≡ true → All (λ (r : Row). plain r ≡ true) rs
unfolding formed
formed_plain [] h = tt
formed_plain (r ∷ rs) h =
    let e : Bool = eqb (kind_of r.key) 0 in
    (first_true (plain r) (e && formed_after r.key rs) h, plain_after r.key rs (second_true e (formed_after r.key rs) (second_true (plain r) (e && formed_after r.key rs) h)))

-- ---- what the form reads: sizes, the used entries and the lengths of filled places

pub rows_take : (s : List ℕ) (n : ℕ) → rows (take (24 * n) s) n ≡ rows s n
rows_take s n =
    let len : length (rows (take (24 * n) s) n) ≡ n = length_rows (take (24 * n) s) n in
    ext_get_or blank (rows (take (24 * n) s) n) (rows s n) (len ∙ sym (length_rows s n)) (λ i l. at i (omega arith))
  where
    at : (i : ℕ) → i < n → get_or (rows (take (24 * n) s) n) i blank ≡ get_or (rows s n) i blank
    at i l = get_d_rows (take (24 * n) s) n i blank l ∙ row_take (24 * n) s (24 * i) (omega arith) ∙ sym (get_d_rows s n i blank l)

lengths_alike : (q q' : List ℕ) (n : ℕ) → ((i : ℕ) → i < n → word q (516 * i) ≡ word q' (516 * i)) → lengths_fit q n ≡ lengths_fit q' n
unfolding lengths_fit
lengths_alike q q' zero h = refl
lengths_alike q q' (suc n) h = rw (h n (omega arith), lengths_alike q q' n (λ i l. h i (omega arith)))

pub form_reads : (t : Tracker) (book book' queue queue' : List ℕ) → length book ≡ length book' → length queue ≡ length queue' → take (24 * t.used) book ≡ take (24 * t.used) book'
    → ((i : ℕ) → i < filled t → word queue (516 * i) ≡ word queue' (516 * i)) → in_form t book queue ≡ in_form t book' queue'
unfolding in_form book_fits state_fits queue_fits
form_reads t book book' queue queue' b q used lengths =
    let entries : rows book t.used ≡ rows book' t.used = sym (rows_take book t.used) ∙ ap (λ (l : List ℕ). rows l t.used) used ∙ rows_take book' t.used in
    rw (b, q, entries, lengths_alike queue queue' (filled t) lengths)
