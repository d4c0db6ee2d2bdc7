-- What the pass of a tidy reads and leaves, in bytes: the entries from a place on are a row and the entries from the next place on; what stays is moved to the front, and
-- the places not yet passed are as they were. Assumes nothing.
use mathlib.Core.Path.{◌≡◌, refl, sym, ap, ap₂, ◌∙◌}
use Prim.Native.Nat.{ℕ, zero, suc, ◌+◌, ◌-◌, ◌*◌, ◌/◌, ◌≤◌, ◌<◌}
use native.Mathlib.Nat.{add-zero}
use native.Mathlib.Omega.{arith}
use mathlib.Core.List.{List, [], ◌∷◌, ◌++◌, append_assoc, append-nil}
use mathlib.Core.Bool.{true, false}
use lib.Dec.{ltb}
use lib.ListN.{length, take, drop, get_or, get_or-append, length-append, length-take, length-drop, drop_of_length-le}
use Rattle.std.proofs.lemmas.List.{take-append-le, get_or_past, get_or-append-add}
use Rattle.std.proofs.lemmas.Bool.{cases_lt}
use mathlib.Core.Logic.{◌⊎◌, inl, inr}
use mir.Val.{Fits}
use Rattle.std.specs.Int.{w8}
use lib.Seq.{drop-drop, drop_at, length-take-le, take_all}
use borrow.Author.Tests.{eq-eqb, ne_eqb, lt-ltb}
use Rattle.priors.specs.Word.{word}
use Rattle.priors.specs.Address.{rank_at}
use Rattle.priors.specs.Rows.{Row}
use Rattle.entries.specs.Keys.{node_of, kind_of}
use Rattle.entries.specs.Entries.{key_at, row_at, rows, bytes_of}
use Rattle.book.specs.Form.{formed}
use Rattle.book.specs.Calls.{zeros, book_of}
use Rattle.book.specs.Tidy.{kept}
use Rattle.book.specs.Ahead.{counts_ahead, first_stays, kept_ahead, rows_in, rows_from, Moved}
use Rattle.priors.proofs.Ranks.{Bytes, word_lt, rank_at_lt}
use Rattle.entries.proofs.KeyLaws.{key_node, key_kind}
use Rattle.entries.proofs.EntryLaws.{row_drop, row_front, length_rows, rows_append, rows_front, length_bytes_of, bytes_of_rows}
use Rattle.book.proofs.FormLaws.{rows_take}
use Rattle.book.proofs.AheadLaws.{kept_ahead_lem}

-- ---- the row at a place

module _ (s : List ℕ) (bytes : Bytes s) (a : ℕ) where
  row_node : node_of (row_at s a).key ≡ rank_at s a
  unfolding row_at key_at
  row_node = key_node (rank_at s a) (word s (a + 8)) (rank_at s (a + 12)) (word_lt s bytes (a + 8)) (rank_at_lt s bytes (a + 12))

  row_kind : kind_of (row_at s a).key ≡ word s (a + 8)
  unfolding row_at key_at
  row_kind = key_kind (rank_at s a) (word s (a + 8)) (rank_at s (a + 12)) (word_lt s bytes (a + 8)) (rank_at_lt s bytes (a + 12))

row_count : (s : List ℕ) (a : ℕ) → (row_at s a).count ≡ word s (a + 20)
unfolding row_at
row_count s a = refl

rows_from_lem : (s : List ℕ) (n i : ℕ) → i < n → rows_from s n i ≡ row_at s (24 * i) ∷ rows_from s n (i + 1)
unfolding rows
rows_from_lem s n i h =
    let n-is : n - i ≡ suc (n - (i + 1)) = omega arith in
    let at : 24 * i + 24 ≡ 24 * (i + 1) = omega arith in
    let here : 24 * i + 0 ≡ 24 * i = omega arith in
    ap (rows (drop (24 * i) s)) n-is
    ∙ ap₂ (λ (r : Row) (l : List Row). r ∷ l) (row_drop (24 * i) s 0 ∙ ap (row_at s) here) (ap (λ (l : List ℕ). rows l (n - (i + 1))) (drop-drop 24 (24 * i) s ∙ ap (λ (k : ℕ). drop k s) at))

rows_past : (s : List ℕ) (n i : ℕ) → n ≤ i → rows_from s n i ≡ []
unfolding rows
rows_past s n i h = let z : n - i ≡ 0 = omega arith in ap (rows (drop (24 * i) s)) z

-- all entries, and those that are lent from a place on
rows_all : (s : List ℕ) → rows_from s (length s / 24) 0 ≡ rows_in s
rows_all s = let n-is : length s / 24 - 0 ≡ length s / 24 = omega arith in ap (rows s) n-is

pub rows_behind : (s : List ℕ) (i : ℕ) → 24 * i ≤ length s → rows_in (take (length s - 24 * i) (drop (24 * i) s)) ≡ rows_from s (length s / 24) i
rows_behind s i h =
    let len : length (drop (24 * i) s) ≡ length s - 24 * i = length-drop (24 * i) s in
    let all : take (length s - 24 * i) (drop (24 * i) s) ≡ drop (24 * i) s = take_all (length s - 24 * i) (drop (24 * i) s) (omega arith) in
    let n-is : length (drop (24 * i) s) / 24 ≡ length s / 24 - i = omega arith in
    ap rows_in all ∙ ap (rows (drop (24 * i) s)) n-is

rows_snoc : (s : List ℕ) (n : ℕ) → rows s (suc n) ≡ rows s n ++ row_at s (24 * n) ∷ []
unfolding rows
rows_snoc s zero = refl
rows_snoc s (suc n) =
    let at : 24 + 24 * n ≡ 24 * suc n = omega arith in
    ap (λ (l : List Row). row_at s 0 ∷ l) (rows_snoc (drop 24 s) n ∙ ap (λ (r : Row). rows (drop 24 s) n ++ r ∷ []) (row_drop 24 s (24 * n) ∙ ap (row_at s) at))

-- 0 < n, told by n not being 0
above_none : (n : ℕ) → (n ≡ 0 → ⊥) → ltb 0 n ≡ true
above_none n h = lt-ltb 0 n (omega arith)

-- ---- whether some entry of a node counts

-- an entry and the bytes behind it
rows_cut : (e t : List ℕ) → length e ≡ 24 → rows_in (e ++ t) ≡ row_at e 0 ∷ rows_in t
unfolding rows
rows_cut e t size =
    let n-is : length (e ++ t) / 24 ≡ suc (length t / 24) = omega (arith, length-append e t) in
    ap (rows (e ++ t)) n-is ∙ ap₂ (λ (r : Row) (l : List Row). r ∷ l) (row_front e t 0 (omega arith)) (ap (λ (l : List ℕ). rows l (length t / 24)) (drop_at e t 24 size))

pub bytes_behind : (rest e t : List ℕ) → Bytes rest → rest ≡ e ++ t → Bytes t
bytes_behind rest e t all cut i = rw (get_or-append-add e t i 0) at (rw cut at (all (length e + i)))

module _ (s : List ℕ) (node : ℕ) where
  -- the entries from here on tell, and here they begin with e
  module _ (rest e t : List ℕ) (all : Bytes rest) (so_far : counts_ahead node (rows_in s) ≡ counts_ahead node (rows_in rest)) (cut : rest ≡ e ++ t) (size : length e ≡ 24) where
    bytes : Bytes e
    bytes i = go (cases_lt i (length e))
      where
        go : (i < length e) ⊎ (length e ≤ i) → Fits w8 (get_or e i 0)
        go (inl l) = rw (get_or-append e t 0 i l) at (rw cut at (all i))
        go (inr h) = rw (get_or_past e i 0 h) (record { fits = omega arith })

    ahead_is : counts_ahead node (rows_in s) ≡ counts_ahead node (row_at e 0 ∷ rows_in t)
    ahead_is = so_far ∙ ap (λ (l : List ℕ). counts_ahead node (rows_in l)) cut ∙ ap (counts_ahead node) (rows_cut e t size)

    pub ahead_other : (rank_at e 0 ≡ node → ⊥) → false ≡ counts_ahead node (rows_in s)
    unfolding counts_ahead
    ahead_other d = sym (ahead_is ∙ rw (row_node e bytes 0, ne_eqb (rank_at e 0) node d))

    module _ (same : rank_at e 0 ≡ node) where
      pub ahead_counts : (word e 20 ≡ 0 → ⊥) → true ≡ counts_ahead node (rows_in s)
      unfolding counts_ahead
      ahead_counts d = sym (ahead_is ∙ rw (row_node e bytes 0, eq-eqb (rank_at e 0) node same, row_count e 0, above_none (word e 20) d))

      pub ahead_on : word e 20 ≡ 0 → counts_ahead node (rows_in s) ≡ counts_ahead node (rows_in t)
      unfolding counts_ahead
      ahead_on z = ahead_is ∙ rw (row_node e bytes 0, eq-eqb (rank_at e 0) node same, row_count e 0, z)

  pub ahead_none : (rest : List ℕ) → counts_ahead node (rows_in s) ≡ counts_ahead node (rows_in rest) → length rest < 24 → false ≡ counts_ahead node (rows_in s)
  unfolding counts_ahead rows
  ahead_none rest so_far h = let z : length rest / 24 ≡ 0 = omega arith in sym (so_far ∙ ap (λ (n : ℕ). counts_ahead node (rows rest n)) z)

-- ---- whether the first entry stays

module _ (s : List ℕ) (bytes : Bytes s) (some : 24 ≤ length s) where
  first : rows_in s ≡ row_at s 0 ∷ rows_from s (length s / 24) 1
  first = sym (rows_all s) ∙ rows_from_lem s (length s / 24) 0 (omega arith)

  pub stays_counted : (word s 20 ≡ 0 → ⊥) → true ≡ first_stays (rows_in s)
  unfolding first_stays
  stays_counted d = sym (rw (first, row_count s 0, above_none (word s 20) d))

  module _ (z : word s 20 ≡ 0) where
    pub child_goes : (word s 8 ≡ 0 → ⊥) → false ≡ first_stays (rows_in s)
    unfolding first_stays
    child_goes d = sym (rw (first, row_count s 0, z, row_kind s bytes 0, ne_eqb (word s 8) 0 d))

    pub ending_stays : word s 8 ≡ 0 → counts_ahead (rank_at s 0) (rows_in (take (length s - 24) (drop 24 s))) ≡ first_stays (rows_in s)
    unfolding first_stays
    ending_stays k = ap (counts_ahead (rank_at s 0)) (rows_behind s 1 some) ∙ sym (rw (first, row_count s 0, z, row_kind s bytes 0, k, row_node s bytes 0))

-- ---- a move

module _ (s : List ℕ) (from to : ℕ) (low : to ≤ from) (fits : 24 * from + 24 ≤ length s) where
  abbrev p : List ℕ
  p = take (24 * to) s

  abbrev e : List ℕ
  e = take 24 (drop (24 * from) s)

  abbrev q : List ℕ
  q = drop (24 * to + 24) s

  length_p : length p ≡ 24 * to
  length_p = length-take-le (24 * to) s (omega arith)

  length_e : length e ≡ 24
  length_e = length-take-le 24 (drop (24 * from) s) (omega (arith, length-drop (24 * from) s))

  one : rows (e ++ q) 1 ≡ row_at s (24 * from) ∷ []
  unfolding rows
  one = rows_front e q 1 length_e ∙ rows_take (drop (24 * from) s) 1 ∙ ap (λ (r : Row). r ∷ []) (row_drop (24 * from) s 0 ∙ ap (row_at s) (add-zero (24 * from)))

  pub moved : Moved s ((p ++ e) ++ q) from to
  moved =
      let at : 24 * (to + 1) ≡ 24 * to + 24 = omega arith in
      let len : length (p ++ e) ≡ 24 * to + 24 = length-append p e ∙ omega (arith, length_p, length_e) in
      record {
        rows_are = ap (λ (l : List ℕ). rows l (to + 1)) (append_assoc p e q) ∙ rows_append p (e ++ q) to 1 length_p ∙ ap₂ (λ (x y : List Row). x ++ y) (rows_take s to) one;
        rest_is = ap (λ (i : ℕ). drop i ((p ++ e) ++ q)) at ∙ drop_at (p ++ e) q (24 * to + 24) len ∙ ap (λ (i : ℕ). drop i s) (sym at);
      }

-- ---- the pass

drop_further : (s s' : List ℕ) (a b : ℕ) → a ≤ b → drop a s' ≡ drop a s → drop b s' ≡ drop b s
drop_further s s' a b h e =
    let at : a + (b - a) ≡ b = omega arith in
    ap (λ (n : ℕ). drop n s') (sym at) ∙ sym (drop-drop (b - a) a s') ∙ ap (drop (b - a)) e ∙ drop-drop (b - a) a s ∙ ap (λ (n : ℕ). drop n s) at

-- after i entries of n, `to` of them kept
pub record Closing (s₀ : List ℕ) (n : ℕ) (s : List ℕ) (to i : ℕ) : Type 0 where
  pub number_le : to ≤ i
  pub rows_are : rows s to ++ kept_ahead (rows_from s₀ n i) ≡ kept_ahead (rows s₀ n)
  pub rest_is : drop (24 * i) s ≡ drop (24 * i) s₀
  pub same_length : length s ≡ length s₀

pub closing_start : (s : List ℕ) (n : ℕ) → Closing s n s 0 0
unfolding rows
closing_start s n =
    let n-is : n - 0 ≡ n = omega arith in
    record { number_le = omega arith; rows_are = ap (λ (k : ℕ). kept_ahead (rows s k)) n-is; rest_is = refl; same_length = refl }

module _ (s₀ : List ℕ) (n : ℕ) (s : List ℕ) (to i : ℕ) (more : i < n) (c : Closing s₀ n s to i) where
  here : rows_from s n i ≡ row_at s (24 * i) ∷ rows_from s₀ n (i + 1)
  here =
      let rest : drop (24 * (i + 1)) s ≡ drop (24 * (i + 1)) s₀ = drop_further s₀ s (24 * i) (24 * (i + 1)) (omega arith) c.rest_is in
      rows_from_lem s n i more ∙ ap (λ (l : List ℕ). row_at s (24 * i) ∷ rows l (n - (i + 1))) rest

  so_far : rows s to ++ kept_ahead (row_at s (24 * i) ∷ rows_from s₀ n (i + 1)) ≡ kept_ahead (rows s₀ n)
  so_far = ap (λ (l : List Row). rows s to ++ kept_ahead l) (sym here ∙ ap (λ (l : List ℕ). rows l (n - i)) c.rest_is) ∙ c.rows_are

  pub closing_past : first_stays (rows_from s n i) ≡ false → Closing s₀ n s to (i + 1)
  unfolding kept_ahead
  closing_past e = record {
    number_le = omega (arith, c.number_le);
    rows_are = rw (ap first_stays (sym here) ∙ e) at so_far;
    rest_is = drop_further s₀ s (24 * i) (24 * (i + 1)) (omega arith) c.rest_is;
    same_length = c.same_length;
  }

  pub closing_on : (s' : List ℕ) → length s' ≡ length s → first_stays (rows_from s n i) ≡ true → Moved s s' i to → Closing s₀ n s' (to + 1) (i + 1)
  unfolding kept_ahead
  closing_on s' len e m =
      let left : rows s to ++ row_at s (24 * i) ∷ kept_ahead (rows_from s₀ n (i + 1)) ≡ kept_ahead (rows s₀ n) = rw (ap first_stays (sym here) ∙ e) at so_far in
      record {
        number_le = omega (arith, c.number_le);
        rows_are =
            ap (λ (l : List Row). l ++ kept_ahead (rows_from s₀ n (i + 1))) m.rows_are
            ∙ append_assoc (rows s to) (row_at s (24 * i) ∷ []) (kept_ahead (rows_from s₀ n (i + 1)))
            ∙ left;
        rest_is = drop_further s s' (24 * (to + 1)) (24 * (i + 1)) (omega (arith, c.number_le)) m.rest_is ∙ drop_further s₀ s (24 * i) (24 * (i + 1)) (omega arith) c.rest_is;
        same_length = len ∙ c.same_length;
      }

pub closing_done : (s₀ : List ℕ) (n : ℕ) (s : List ℕ) (to i : ℕ) → n ≤ i → Closing s₀ n s to i → rows s to ≡ kept_ahead (rows s₀ n)
unfolding kept_ahead
closing_done s₀ n s to i h c =
    let is : rows s to ++ kept_ahead (rows_from s₀ n i) ≡ rows s to ++ [] = ap (λ (l : List Row). rows s to ++ kept_ahead l) (rows_past s₀ n i h) in
    sym (append-nil (rows s to)) ∙ sym is ∙ c.rows_are

-- what the pass over the first n entries leaves in the whole
module _ (s : List ℕ) (n : ℕ) (fits : 24 * n ≤ length s) (front : List ℕ) (len : length front ≡ length (take (24 * n) s)) where
  front_length : length front ≡ 24 * n
  front_length = len ∙ length-take-le (24 * n) s fits

  pub whole_length : length (front ++ drop (24 * n) s) ≡ length s
  whole_length = simp (length-append, length-drop) (omega (arith, front_length))

  module _ (m : ℕ) (low : 24 * m ≤ length (take (24 * n) s)) where
    pub passed_le : m ≤ n
    passed_le = omega (arith, length-take-le (24 * n) s fits)

    pub passed_rows : rows front m ≡ kept_ahead (rows_in (take (24 * n) s)) → rows (front ++ drop (24 * n) s) m ≡ kept_ahead (rows s n)
    passed_rows e =
        let rest : List ℕ = drop (24 * n) s in
        let inside : 24 * m ≤ length front = omega (arith, len) in
        let number : length (take (24 * n) s) / 24 ≡ n = omega (arith, length-take-le (24 * n) s fits) in
        sym (rows_take (front ++ rest) m)
        ∙ ap (λ (l : List ℕ). rows l m) (take-append-le (24 * m) front rest inside)
        ∙ rows_take front m
        ∙ e
        ∙ ap kept_ahead (ap (rows (take (24 * n) s)) number ∙ rows_take s n)

-- ---- the kept entries, and zeros behind them

module _ (s₀ : List ℕ) (n : ℕ) (formed-is : formed (rows s₀ n) ≡ true) (s : List ℕ) (bytes : Bytes s) (len : length s ≡ length s₀) (m : ℕ) (fits : 24 * m ≤ length s) (rows_are : rows s m ≡ kept_ahead (rows s₀ n)) where
  is_kept : rows s m ≡ kept (rows s₀ n)
  is_kept = rows_are ∙ sym (kept_ahead_lem (rows s₀ n) formed-is)

  pub number_kept : m ≡ length (kept (rows s₀ n))
  number_kept = sym (length_rows s m) ∙ ap length is_kept

  book_is : (left : ℕ) → left ≡ length s - 24 * m → take (24 * m) s ++ zeros left ≡ book_of (kept (rows s₀ n)) (length s₀)
  unfolding book_of
  book_is left e =
      let front : bytes_of (kept (rows s₀ n)) ≡ take (24 * m) s = ap bytes_of (sym is_kept) ∙ bytes_of_rows s bytes m fits in
      let size : length s₀ - length (bytes_of (kept (rows s₀ n))) ≡ left = omega (arith, length_bytes_of (kept (rows s₀ n)), number_kept) in
      sym (ap₂ (λ (l : List ℕ) (k : ℕ). l ++ zeros k) front size)

  -- what clearing the rest leaves in the whole
  pub cleared : (z : List ℕ) → z ≡ zeros (length (take (length s - 24 * m) (drop (24 * m) s)))
      → take (24 * m) s ++ (z ++ drop (length s - 24 * m) (drop (24 * m) s)) ≡ book_of (kept (rows s₀ n)) (length s₀)
  cleared z is =
      let left : length (take (length s - 24 * m) (drop (24 * m) s)) ≡ length s - 24 * m = simp (length-take, length-drop) (omega arith) in
      let all : length s ≤ 24 * m + (length s - 24 * m) = omega arith in
      let nothing : drop (length s - 24 * m) (drop (24 * m) s) ≡ [] = drop-drop (length s - 24 * m) (24 * m) s ∙ drop_of_length-le s all in
      ap₂ (λ (x y : List ℕ). take (24 * m) s ++ (x ++ y)) (is ∙ ap zeros left) nothing
      ∙ ap (λ (l : List ℕ). take (24 * m) s ++ l) (append-nil (zeros (length s - 24 * m)))
      ∙ book_is (length s - 24 * m) refl
