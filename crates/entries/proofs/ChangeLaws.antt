-- What the changes of bytes do to rows: an entry put in, and a count changed. Assumes nothing.
use mathlib.Core.Path.{◌≡◌, refl, sym, ap, ap₂, subst, ◌∙◌}
use mathlib.Core.Logic.{◌⊎◌, inl, inr, ⊎_elim}
use Prim.Native.Nat.{ℕ, zero, suc, ◌+◌, ◌-◌, ◌*◌, ◌^◌, ◌≤◌, ◌<◌}
use native.Mathlib.Omega.{arith}
use mathlib.Core.List.{List, [], ◌∷◌, ◌++◌, append_assoc}
use lib.ListN.{length, get_or, take, drop, set, length-append, length-take, length-drop, take-append-drop, length-set}
use lib.Seq.{take_at, drop_at, length-take-le, take-append-le, take-take, ext_get_or, get_or-set_same, get_or-set_other, drop-drop}
use Rattle.priors.specs.Word.{word, word_bytes, store}
use Rattle.priors.specs.Rows.{Row, row, keys, Ascends}
use Rattle.priors.specs.Search.{blank}
use Rattle.priors.specs.Address.{address_bytes}
use Rattle.priors.proofs.Tests.{three}
use Rattle.priors.proofs.Fields.{word_store_same, word_store_other, store_store, drop_store}
use Rattle.entries.specs.declared.keys.Key.{Key}
use Rattle.entries.specs.Keys.{key_value}
use Rattle.entries.specs.Entries.{key_at, row_at, rows, row_bytes, with_entry, with_count, entry_count_at}
use Rattle.entries.proofs.KeyLaws.{key_node, key_kind, key_child}
use Rattle.entries.proofs.EntryLaws.{length_rows, get_d_rows, length-row_bytes, rows_append, rows_front, rows_cons, InRange}
use Rattle.entries.proofs.GapLaws.{shifted}

-- ---- an entry written

module _ (k : Key) (hk : k.kind < 2 ^ 32) (hc : k.child < 2 ^ 64) where
  -- the bytes of a row with the key k
  pub key_bytes : (count : ℕ) → address_bytes k.node ++ (word_bytes k.kind ++ (address_bytes k.child ++ word_bytes count)) ≡ row_bytes (row (key_value k) count)
  unfolding row_bytes key_value
  key_bytes count =
      let n : ℕ = k.node in
      rw (key_node n k.kind k.child hk hc, key_kind n k.kind k.child hk hc, key_child n k.kind k.child hk hc)

  pub store_entry : (s : List ℕ) (at count : ℕ) → at + 24 ≤ length s
      → store (store (store (store s at (address_bytes k.node)) (at + 8) (word_bytes k.kind)) (at + 12) (address_bytes k.child)) (at + 20) (word_bytes count) ≡ store s at (row_bytes (row (key_value k) count))
  store_entry s at count h =
      let a : List ℕ = address_bytes k.node in
      let b : List ℕ = word_bytes k.kind in
      let c : List ℕ = address_bytes k.child in
      let d : List ℕ = word_bytes count in
      ap (λ (l : List ℕ). store (store l (at + 12) c) (at + 20) d) (store_store s at a b (at + 8) refl (omega arith))
      ∙ ap (λ (l : List ℕ). store l (at + 20) d) (store_store s at (a ++ b) c (at + 12) refl (omega arith))
      ∙ store_store s at ((a ++ b) ++ c) d (at + 20) refl (omega arith)
      ∙ ap (store s at) (key_bytes count)

-- ---- an entry put in

module _ (s : List ℕ) (n i : ℕ) (r : Row) (h : i ≤ n) (k : 24 * n + 24 ≤ length s) where
  p : List ℕ
  p = take (24 * i) s

  m : List ℕ
  m = drop (24 * i) (take (24 * n) s)

  length_p : length p ≡ 24 * i
  unfolding p
  length_p = length-take-le (24 * i) s (omega arith)

  length_m : length m ≡ 24 * (n - i)
  unfolding m
  length_m = simp (length-drop, length-take) (omega arith)

  -- the book in three parts
  parts : s ≡ p ++ (m ++ drop (24 * n) s)
  unfolding p m
  parts =
      sym (take-append-drop (24 * n) s)
      ∙ ap (λ (l : List ℕ). l ++ drop (24 * n) s) (sym (take-append-drop (24 * i) (take (24 * n) s)) ∙ ap (λ (l : List ℕ). l ++ m) (take-take (24 * i) (24 * n) s (omega arith)))
      ∙ append_assoc p m (drop (24 * n) s)

  before : rows s n ≡ rows p i ++ rows m (n - i)
  before =
      let n-is : n ≡ i + (n - i) = omega arith in
      ap₂ rows parts n-is ∙ rows_append p (m ++ drop (24 * n) s) i (n - i) length_p
      ∙ ap (λ (l : List Row). rows p i ++ l) (rows_front m (drop (24 * n) s) (n - i) length_m)

  -- what the gap and the store leave
  pub gap_filled : store (shifted s (24 * i) (24 * n)) (24 * i) (row_bytes r) ≡ with_entry s n i r
  unfolding store with_entry m
  gap_filled =
      let t : List ℕ = m ++ drop (24 * n + 24) s in
      let len : length (take (24 * i + 24) s) ≡ 24 * i + 24 = length-take-le (24 * i + 24) s (omega arith) in
      let front : take (24 * i) (take (24 * i + 24) s ++ t) ≡ take (24 * i) s = take-append-le (24 * i) (take (24 * i + 24) s) t (omega arith) ∙ take-take (24 * i) (24 * i + 24) s (omega arith) in
      rw (length-row_bytes r, front, drop_at (take (24 * i + 24) s) t (24 * i + 24) len)

  pub rows_with : InRange r → rows (with_entry s n i r) (n + 1) ≡ take i (rows s n) ++ r ∷ drop i (rows s n)
  unfolding with_entry p m
  rows_with range =
      let n-is : n + 1 ≡ i + suc (n - i) = omega arith in
      let len : length (rows p i) ≡ i = length_rows p i in
      ap (rows (with_entry s n i r)) n-is
      ∙ rows_append p (row_bytes r ++ (m ++ drop (24 * n + 24) s)) i (suc (n - i)) length_p
      ∙ ap (λ (l : List Row). rows p i ++ l) (rows_cons r (m ++ drop (24 * n + 24) s) (n - i) range ∙ ap (λ (l : List Row). r ∷ l) (rows_front m (drop (24 * n + 24) s) (n - i) length_m))
      ∙ sym (ap (λ (l : List Row). take i l ++ r ∷ drop i l) before
      ∙ ap₂ (λ (x y : List Row). x ++ r ∷ y) (take_at (rows p i) (rows m (n - i)) i len) (drop_at (rows p i) (rows m (n - i)) i len))

  pub rest_with : drop (24 * (n + 1)) (with_entry s n i r) ≡ drop (24 * (n + 1)) s
  unfolding with_entry p m
  rest_with =
      let at : 24 * (n + 1) ≡ 24 * n + 24 = omega arith in
      let len : length (p ++ (row_bytes r ++ m)) ≡ 24 * n + 24 = simp (length-append, length_p, length_m, length-row_bytes) (omega arith) in
      let d : List ℕ = drop (24 * n + 24) s in
      rw at
      (ap (drop (24 * n + 24)) (simp append_assoc) ∙ drop_at (p ++ (row_bytes r ++ m)) d (24 * n + 24) len)

-- ---- a count changed

module _ (s : List ℕ) (j v : ℕ) (h : 24 * j + 24 ≤ length s) where
  other : (a : ℕ) → (a + 24 ≤ 24 * j + 20) ⊎ (24 * j + 24 ≤ a) → row_at (with_count s j v) a ≡ row_at s a
  unfolding row_at key_at with_count
  other a o =
      rw (same a (omega arith), same (a + 4) (omega arith), same (a + 8) (omega arith), same (a + 12) (omega arith), same (a + 12 + 4) (omega arith), same (a + 20) (omega arith))
    where
      same : (b : ℕ) → (a ≤ b) × (b ≤ a + 20) → word (store s (24 * j + 20) (word_bytes v)) b ≡ word s b
      same b w = word_store_other s (24 * j + 20) (word_bytes v) b (omega arith) (⊎_elim (λ l. inl (omega arith)) (λ l. inr (omega arith)) o)

  here : v < 2 ^ 32 → row_at (with_count s j v) (24 * j) ≡ row (row_at s (24 * j)).key v
  unfolding row_at key_at with_count
  here k =
      rw (same (24 * j) (omega arith), same (24 * j + 4) (omega arith), same (24 * j + 8) (omega arith), same (24 * j + 12) (omega arith), same (24 * j + 12 + 4) (omega arith), word_store_same s (24 * j + 20) v (omega arith) k)
    where
      same : (b : ℕ) → b + 4 ≤ 24 * j + 20 → word (store s (24 * j + 20) (word_bytes v)) b ≡ word s b
      same b w = word_store_other s (24 * j + 20) (word_bytes v) b (omega arith) (inl w)

  -- one row's count is v, and all else is as it was
  pub rows_counted : v < 2 ^ 32 → (n : ℕ) → j < n → rows (with_count s j v) n ≡ set (rows s n) j (row (get_or (rows s n) j blank).key v)
  rows_counted k n l =
      let len : length rs ≡ n = length_rows s n in
      let len' : length (rows (with_count s j v) n) ≡ n = length_rows (with_count s j v) n in
      ext_get_or blank (rows (with_count s j v) n) (set rs j new) (simp length-set (omega arith)) (λ i il. at i (omega arith) (three i j))
    where
      rs : List Row
      rs = rows s n

      new : Row
      new = row (get_or rs j blank).key v

      elsewhere : (i : ℕ) → i < n → (i ≡ j → ⊥) → (24 * i + 24 ≤ 24 * j + 20) ⊎ (24 * j + 24 ≤ 24 * i) → get_or (rows (with_count s j v) n) i blank ≡ get_or (set rs j new) i blank
      elsewhere i il ne o =
          get_d_rows (with_count s j v) n i blank il ∙ other (24 * i) o ∙ sym (get_d_rows s n i blank il) ∙ sym (get_or-set_other rs j i new blank ne)

      at : (i : ℕ) → i < n → (i < j) ⊎ ((i ≡ j) ⊎ (j < i)) → get_or (rows (with_count s j v) n) i blank ≡ get_or (set rs j new) i blank
      at i il (inl lt) = elsewhere i il (λ e. omega arith) (inl (omega arith))
      at i il (inr (inr gt)) = elsewhere i il (λ e. omega arith) (inr (omega arith))
      at i il (inr (inl e)) =
          let len : length rs ≡ n = length_rows s n in
          rw e (get_d_rows (with_count s j v) n j blank l ∙ here k ∙ ap (λ (x : Row). row x.key v) (sym (get_d_rows s n j blank l)) ∙ sym (get_or-set_same rs j new blank (omega arith)))

  pub rest_counted : (n : ℕ) → j < n → drop (24 * n) (with_count s j v) ≡ drop (24 * n) s
  unfolding with_count
  rest_counted n l =
      let b : ℕ = 24 * j + 24 in
      let at : b + (24 * n - b) ≡ 24 * n = omega arith in
      let s' : List ℕ = store s (24 * j + 20) (word_bytes v) in
      ap (λ (k : ℕ). drop k s') (sym at)
      ∙ sym (drop-drop (24 * n - b) b s')
      ∙ ap (drop (24 * n - b)) (drop_store s (24 * j + 20) (word_bytes v) b (omega arith) h)
      ∙ drop-drop (24 * n - b) b s
      ∙ ap (λ (k : ℕ). drop k s) at

-- the keys stay
keys_set : (rs : List Row) (j v : ℕ) → keys (set rs j (row (get_or rs j blank).key v)) ≡ keys rs
keys_set [] j v = refl
keys_set (r ∷ rs) zero v = refl
keys_set (r ∷ rs) (suc j) v = ap (λ (l : List ℕ). r.key ∷ l) (keys_set rs j v)

pub counted_ascends : (s : List ℕ) (n j v : ℕ) → Ascends 0 (keys (rows s n)) → 24 * n ≤ length s → j < n → v < 2 ^ 32 → Ascends 0 (keys (rows (with_count s j v) n))
counted_ascends s n j v h fits l k =
    let is : keys (rows (with_count s j v) n) ≡ keys (rows s n) = ap keys (rows_counted s j v (omega arith) k n l) ∙ keys_set (rows s n) j v in
    subst (Ascends 0) (sym is) h

-- the count of a row is the field in the bytes
pub count_is : (s : List ℕ) (n j : ℕ) → j < n → (get_or (rows s n) j blank).count ≡ entry_count_at s j
unfolding row_at
count_is s n j l = ap (λ (r : Row). r.count) (get_d_rows s n j blank l)
