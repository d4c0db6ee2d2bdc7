-- Entries and their bytes: what stands at a place, entries of two parts one after the other, and both round trips between bytes and rows.
-- Assumes nothing.
use mathlib.Core.Path.{◌≡◌, refl, sym, ap, ap₂, ◌∙◌}
use Prim.Native.Nat.{ℕ, zero, suc, ◌+◌, ◌-◌, ◌*◌, ◌^◌, ◌≤◌, ◌<◌}
use native.Mathlib.Nat.{zero-add, suc-add, add-zero, add_assoc, not-suc-le-zero, le_of_suc-le-suc}
use native.Mathlib.Omega.{arith}
use mathlib.Core.List.{List, [], ◌∷◌, ◌++◌, append_assoc, append-nil}
use lib.ListN.{length, get_or, take, drop, length-append, length-drop}
use lib.Seq.{drop_at, take_at, drop-append-le, drop-drop, get_or-drop}
use Rattle.priors.specs.Word.{word, word_bytes}
use Rattle.priors.specs.Address.{rank_at, address_bytes}
use Rattle.priors.specs.Rows.{Row, row}
use Rattle.priors.proofs.Fields.{word_take, word_front, word_drop, word_bytes_lem}
use Rattle.priors.proofs.Ranks.{Bytes, word_lt, rank_at_lt, rank_bytes, word_back, rank_forth}
use Rattle.entries.specs.Keys.{key_of, node_of, kind_of, child_of, key_value}
use Rattle.entries.specs.Entries.{fields_at, key_at, row_at, rows, row_bytes, bytes_of}
use Rattle.entries.proofs.KeyLaws.{key_node, key_kind, key_child, key_parts, kind_lt, child_lt, node_lt}

-- ---- what stands at a place

pub row_drop : (m : ℕ) (s : List ℕ) (a : ℕ) → row_at (drop m s) a ≡ row_at s (m + a)
unfolding row_at key_at
row_drop m s a = simp (word_drop, add_assoc)

pub length_rows : (s : List ℕ) (n : ℕ) → length (rows s n) ≡ n
unfolding rows
length_rows s zero = refl
length_rows s (suc n) = ap suc (length_rows (drop 24 s) n)

pub get_d_rows : (s : List ℕ) (n i : ℕ) (d : Row) → i < n → get_or (rows s n) i d ≡ row_at s (24 * i)
unfolding rows
get_d_rows s zero i d h = absurd (not-suc-le-zero h)
get_d_rows s (suc n) zero d h = refl
get_d_rows s (suc n) (suc i) d h =
    let e : 24 + 24 * i ≡ 24 * suc i = omega arith in
    get_d_rows (drop 24 s) n i d (le_of_suc-le-suc h) ∙ row_drop 24 s (24 * i) ∙ ap (row_at s) e

-- the key of an entry, as the code reads it
pub key_read : (s : List ℕ) (a : ℕ) → key_value (fields_at s a) ≡ key_at s a
unfolding key_at key_value
key_read s a = refl

-- ---- the entries of two parts

pub row_front : (p q : List ℕ) (a : ℕ) → a + 24 ≤ length p → row_at (p ++ q) a ≡ row_at p a
unfolding row_at key_at
row_front p q a h =
    rw (word_front p q a (omega arith), word_front p q (a + 4) (omega arith), word_front p q (a + 8) (omega arith), word_front p q (a + 12) (omega arith), word_front p q (a + 12 + 4) (omega arith), word_front p q (a + 20) (omega arith))

pub row_take : (n : ℕ) (s : List ℕ) (a : ℕ) → a + 24 ≤ n → row_at (take n s) a ≡ row_at s a
unfolding row_at key_at
row_take n s a h =
    rw (word_take n s a (omega arith), word_take n s (a + 4) (omega arith), word_take n s (a + 8) (omega arith), word_take n s (a + 12) (omega arith), word_take n s (a + 12 + 4) (omega arith), word_take n s (a + 20) (omega arith))

pub rows_append : (p q : List ℕ) (m n : ℕ) → length p ≡ 24 * m → rows (p ++ q) (m + n) ≡ rows p m ++ rows q n
unfolding rows
rows_append [] q zero n h = ap (rows q) (zero-add n)
rows_append (x ∷ p) q zero n h = absurd (omega arith)
rows_append p q (suc m) n h =
    let low : 24 ≤ length p = omega arith in
    let len : length (drop 24 p) ≡ 24 * m = length-drop 24 p ∙ omega arith in
    ap (rows (p ++ q)) (suc-add m n)
    ∙ ap₂ (λ (r : Row) (l : List Row). r ∷ l) (row_front p q 0 low)
    (ap (λ (l : List ℕ). rows l (m + n)) (drop-append-le 24 p q low) ∙ rows_append (drop 24 p) q m n len)

pub rows_front : (p q : List ℕ) (m : ℕ) → length p ≡ 24 * m → rows (p ++ q) m ≡ rows p m
unfolding rows
rows_front p q m h = ap (rows (p ++ q)) (sym (add-zero m)) ∙ rows_append p q m 0 h ∙ append-nil (rows p m)

-- ---- from rows to bytes and back

pub length-row_bytes : (r : Row) → length (row_bytes r) ≡ 24
unfolding row_bytes
length-row_bytes r = refl

pub length_bytes_of : (rs : List Row) → length (bytes_of rs) ≡ 24 * length rs
unfolding bytes_of
length_bytes_of [] = refl
length_bytes_of (r ∷ rs) = length-append (row_bytes r) (bytes_of rs) ∙ omega (arith, length-row_bytes r, length_bytes_of rs)

-- the key is one of an entry, and the count is a field
pub record InRange (r : Row) : Type 0 where
  pub key_fits : r.key < 2 ^ 160
  pub count_fits : r.count < 2 ^ 32

abbrev pub AllInRange : List Row → Type 0
AllInRange [] = Unit {0}
AllInRange (r ∷ rs) = InRange r × AllInRange rs

pub row_back : (r : Row) (q : List ℕ) → InRange r → row_at (row_bytes r ++ q) 0 ≡ r
unfolding row_at key_at row_bytes word
row_back r q h =
    let k : ℕ = r.key in
    let is : key_of (node_of k) (kind_of k) (child_of k) ≡ k = key_parts k in
    (λ i. row (key_of (rank_bytes (node_of k) [] (node_lt k h.key_fits) i) (word_bytes_lem (kind_of k) [] (kind_lt k) i) (rank_bytes (child_of k) [] (child_lt k) i)) (word_bytes_lem r.count [] h.count_fits i))
    ∙ ap (λ (x : ℕ). row x r.count) is

pub rows_cons : (r : Row) (q : List ℕ) (n : ℕ) → InRange r → rows (row_bytes r ++ q) (suc n) ≡ r ∷ rows q n
unfolding rows
rows_cons r q n h =
    ap₂ (λ (x : Row) (l : List Row). x ∷ l) (row_back r q h)
    (ap (λ (l : List ℕ). rows l n) (drop_at (row_bytes r) q 24 (length-row_bytes r)))

pub rows_bytes_of : (rs : List Row) (q : List ℕ) → AllInRange rs → rows (bytes_of rs ++ q) (length rs) ≡ rs
unfolding rows bytes_of
rows_bytes_of [] q h = refl
rows_bytes_of (r ∷ rs) q h =
    ap (λ (l : List ℕ). rows l (suc (length rs))) (append_assoc (row_bytes r) (bytes_of rs) q)
    ∙ rows_cons r (bytes_of rs ++ q) (length rs) h.0
    ∙ ap (λ (l : List Row). r ∷ l) (rows_bytes_of rs q h.1)

-- ---- from bytes to rows and back

row_forth : (s : List ℕ) → Bytes s → 24 ≤ length s → row_bytes (row_at s 0) ++ drop 24 s ≡ s
unfolding row_bytes row_at key_at
row_forth s bytes h =
    let kind : word s 8 < 2 ^ 32 = word_lt s bytes 8 in
    let child : rank_at s 12 < 2 ^ 64 = rank_at_lt s bytes 12 in
    let n : ℕ = rank_at s 0 in
    rw (key_node n (word s 8) (rank_at s 12) kind child, key_kind n (word s 8) (rank_at s 12) kind child, key_child n (word s 8) (rank_at s 12) kind child)
    (ap (λ (l : List ℕ). address_bytes n ++ (word_bytes (word s 8) ++ (address_bytes (rank_at s 12) ++ l))) (word_back s bytes 20 (omega arith))
    ∙ ap (λ (l : List ℕ). address_bytes n ++ (word_bytes (word s 8) ++ l)) (rank_forth s bytes 12 (omega arith))
    ∙ ap (λ (l : List ℕ). address_bytes n ++ l) (word_back s bytes 8 (omega arith))
    ∙ rank_forth s bytes 0 (omega arith))

pub rows_forth : (s : List ℕ) → Bytes s → (n : ℕ) → 24 * n ≤ length s → bytes_of (rows s n) ++ drop (24 * n) s ≡ s
unfolding rows bytes_of
rows_forth s bytes zero h = refl
rows_forth s bytes (suc n) h =
    let low : 24 ≤ length s = omega arith in
    let len : length (drop 24 s) ≡ length s - 24 = length-drop 24 s in
    let rest : List ℕ = drop (24 * suc n) s in
    let at : 24 + 24 * n ≡ 24 * suc n = omega arith in
    append_assoc (row_bytes (row_at s 0)) (bytes_of (rows (drop 24 s) n)) rest
    ∙ ap (λ (l : List ℕ). row_bytes (row_at s 0) ++ l)
    (ap (λ (l : List ℕ). bytes_of (rows (drop 24 s) n) ++ l) (ap (λ (k : ℕ). drop k s) (sym at) ∙ sym (drop-drop (24 * n) 24 s))
    ∙ rows_forth (drop 24 s) (λ i. rw (get_or-drop 24 s i 0) (bytes (24 + i))) n (omega arith))
    ∙ row_forth s bytes low

pub bytes_of_rows : (s : List ℕ) → Bytes s → (n : ℕ) → 24 * n ≤ length s → bytes_of (rows s n) ≡ take (24 * n) s
bytes_of_rows s bytes n h =
    let len : length (bytes_of (rows s n)) ≡ 24 * n = length_bytes_of (rows s n) ∙ ap (λ (k : ℕ). 24 * k) (length_rows s n) in
    sym (take_at (bytes_of (rows s n)) (drop (24 * n) s) (24 * n) len) ∙ ap (take (24 * n)) (rows_forth s bytes n h)
