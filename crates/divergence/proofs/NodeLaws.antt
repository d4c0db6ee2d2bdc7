-- A book's entries as nodes: a part of the book by its first entry, where a node's children end, and what the nodes from a place on are. Assumes nothing.
use Rattle.std.proofs.Common.{◌≡◌, ℕ, suc, ◌+◌, ◌-◌, ◌*◌, ◌^◌, ◌<◌, ◌≤◌, Bool, true, false, cond, ◌&&◌, eqb, ltb, List, [], ◌∷◌, map, length, get_or, drop, sym, refl, ap, ◌∙◌, ap₂, add-zero, arith, drop-drop, eqb-true}
use Rattle.priors.specs.Word.{word}
use Rattle.priors.specs.Rows.{Row}
use Rattle.priors.specs.Search.{blank, place, holds}
use Rattle.priors.specs.Priors.{count_sum, total}
use Rattle.priors.proofs.BelowLaws.{second_true}
use Rattle.std.specs.Prelude.{Ok, Err}
use Rattle.entries.specs.declared.keys.Key.{Key}
use Rattle.entries.specs.Keys.{key_of, end_key, node_of, kind_of, child_of}
use Rattle.entries.specs.Entries.{fields_at, key_at, row_at, rows, find_in}
use Rattle.entries.proofs.KeyLaws.{key_node, key_kind, key_child}
use Rattle.entries.proofs.EntryLaws.{row_drop, get_d_rows}
use Rattle.book.proofs.ListingForm.{node_end}
use Rattle.divergence.specs.Nodes.{child_row}
use Rattle.divergence.specs.Parts.{part, leading, node_at, evidence_at}

-- ---- a part of the book

pub part_none : (book : List ℕ) (i to : ℕ) → to ≤ i → part book i to ≡ []
unfolding rows
part_none book i to h = let e : to - i ≡ 0 = omega arith in rw e

pub part_cons : (book : List ℕ) (i to : ℕ) → i < to → part book i to ≡ row_at book (24 * i) ∷ part book (i + 1) to
unfolding rows
part_cons book i to h =
    let e : to - i ≡ suc (to - (i + 1)) = omega arith in
    let on : 24 * i + 24 ≡ 24 * (i + 1) = omega arith in
    rw e
    (ap₂ (λ (r : Row) (s : List ℕ). r ∷ rows s (to - (i + 1)))
    (row_drop (24 * i) book 0 ∙ ap (row_at book) (add-zero (24 * i)))
    (drop-drop 24 (24 * i) book ∙ ap (λ (k : ℕ). drop k book) on))

-- ---- an entry's fields

-- of the key as the code reads it
module _ (book : List ℕ) (a : ℕ) (k : Key) (is : k ≡ fields_at book a) (small : k.kind < 2 ^ 32) (ranked : k.child < 2 ^ 64) where
  here : (row_at book a).key ≡ key_of k.node k.kind k.child
  unfolding row_at key_at
  here = sym (λ j. key_of (is j).node (is j).kind (is j).child)

  pub node_here : node_of (row_at book a).key ≡ k.node
  node_here = ap node_of here ∙ key_node k.node k.kind k.child small ranked

  pub kind_here : kind_of (row_at book a).key ≡ k.kind
  kind_here = ap kind_of here ∙ key_kind k.node k.kind k.child small ranked

  pub child_here : child_of (row_at book a).key ≡ k.child
  child_here = ap child_of here ∙ key_child k.node k.kind k.child small ranked

pub count_here : (book : List ℕ) (a : ℕ) → (row_at book a).count ≡ word book (a + 20)
unfolding row_at
count_here book a = refl

-- ---- where a node's children end

module _ (book : List ℕ) (i used : ℕ) (l : i < used) where
  pub leading_ending : eqb (kind_of (row_at book (24 * i)).key) 0 ≡ true → leading (part book i used) ≡ 0
  unfolding leading
  leading_ending z = rw (part_cons book i used l, z)

  pub leading_child : eqb (kind_of (row_at book (24 * i)).key) 0 ≡ false → leading (part book i used) ≡ suc (leading (part book (i + 1) used))
  unfolding leading
  leading_child z = rw (part_cons book i used l, z)

pub leading_none : (book : List ℕ) (i used : ℕ) → used ≤ i → leading (part book i used) ≡ 0
unfolding leading
leading_none book i used h = rw (part_none book i used h)

pub leading_le : (rs : List Row) → leading rs ≤ length rs
unfolding leading
leading_le [] = omega arith
leading_le (r ∷ rs) = go (eqb (kind_of r.key) 0) (leading_le rs)
  where
    go : (b : Bool) → leading rs ≤ length rs → cond b 0 (suc (leading rs)) ≤ suc (length rs)
    go true h = omega arith
    go false h = omega arith

-- the counts of the entries
pub sum_on : (book : List ℕ) (i to : ℕ) → i < to → count_sum (part book i to) ≡ word book (24 * i + 20) + count_sum (part book (i + 1) to)
unfolding count_sum
sum_on book i to l = rw (part_cons book i to l, count_here book (24 * i))

pub sum_none : (book : List ℕ) (i to : ℕ) → to ≤ i → count_sum (part book i to) ≡ 0
unfolding count_sum
sum_none book i to h = rw (part_none book i to h)

sum_children : (rs : List Row) → count_sum (map child_row rs) ≡ count_sum rs
unfolding count_sum
sum_children [] = refl
sum_children (r ∷ rs) = ap (λ (n : ℕ). r.count + n) (sum_children rs)

-- a node's total is the sum of its entries' counts
pub evidence_total_lem : (book : List ℕ) (i to : ℕ) → i < to → total (evidence_at book i to) ≡ count_sum (part book i to)
unfolding total
evidence_total_lem book i to l = omega (arith, sum_children (part book (i + 1) to), sum_on book i to l)

-- ---- an ending that is found

key_found : (rs : List Row) (k i : ℕ) → Ok i ≡ find_in rs k → (get_or rs i blank).key ≡ k
unfolding find_in holds
key_found rs k i h = go (ltb (place rs k) (length rs) && eqb (get_or rs (place rs k) blank).key k) refl h
  where
    go : (b : Bool) → ltb (place rs k) (length rs) && eqb (get_or rs (place rs k) blank).key k ≡ b → Ok i ≡ cond b (Ok (place rs k)) (Err (place rs k)) → (get_or rs i blank).key ≡ k
    go true e h =
        let is : place rs k ≡ i = cc in
        ap (λ (j : ℕ). (get_or rs j blank).key) (sym is) ∙ eqb-true (get_or rs (place rs k) blank).key k (second_true (ltb (place rs k) (length rs)) (eqb (get_or rs (place rs k) blank).key k) e)
    go false e h = let z : ◌≡◌ {A = ℕ} 0 1 = cc in absurd (omega arith)

-- is its node's
pub found_node : (book : List ℕ) (used a i : ℕ) → i < used → Ok i ≡ find_in (rows book used) (end_key a) → node_at book i ≡ a
found_node book used a i l h =
    ap (λ (r : Row). node_of r.key) (sym (get_d_rows book used i blank l)) ∙ ap node_of (key_found (rows book used) (end_key a) i h) ∙ node_end a
