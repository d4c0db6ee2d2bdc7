-- A walk along a node's children: what one more child adds to the sums, and that no index is past the total. Assumes nothing.
use Rattle.std.proofs.Common.{◌≡◌, ℕ, ◌+◌, ◌*◌, ◌<◌, ◌≤◌, Bool, true, false, cond, eqb, List, [], ◌∷◌, map, sym, ap, ◌∙◌, zero-le, arith}
use Rattle.std.specs.Prelude.{Some, is_some}
use lib.Ieee.{Float}
use Rattle.priors.specs.Rows.{Row, row, count_of}
use Rattle.priors.specs.Priors.{count_sum}
use Rattle.entries.specs.Entries.{row_at}
use Rattle.divergence.specs.declared.sums.Sums.{Sums}
use Rattle.divergence.specs.Nodes.{child_row}
use Rattle.divergence.specs.Parts.{part}
use Rattle.divergence.specs.Divergence.{term, prior_count, child_terms, lacks_child}
use Rattle.divergence.proofs.NodeLaws.{part_none, part_cons}

-- a count that is found is part of the sum
pub count_le : (k : ℕ) (rs : List Row) → prior_count (count_of k rs) ≤ count_sum rs
unfolding count_of count_sum
count_le k [] = zero-le
count_le k (r ∷ rs) = go (eqb r.key k) (count_le k rs)
  where
    go : (b : Bool) → prior_count (count_of k rs) ≤ count_sum rs → prior_count (cond b (Some r.count) (count_of k rs)) ≤ r.count + count_sum rs
    go true h = omega arith
    go false h = omega arith

-- ---- a node's children, one after another

pub children_none : (book : List ℕ) (i to : ℕ) → to ≤ i → map child_row (part book i to) ≡ []
children_none book i to h = rw (part_none book i to h)

-- the child at the place i, and those after it
module _ (book : List ℕ) (i to : ℕ) (l : i < to) (rank count : ℕ) (is : row rank count ≡ child_row (row_at book (24 * i))) where
  pub children_cons : map child_row (part book i to) ≡ row rank count ∷ map child_row (part book (i + 1) to)
  children_cons = ap (map child_row) (part_cons book i to l) ∙ ap (λ (r : Row). r ∷ map child_row (part book (i + 1) to)) (sym is)

  pub sum_children : count_sum (map child_row (part book i to)) ≡ count + count_sum (map child_row (part book (i + 1) to))
  unfolding count_sum
  sum_children = ap count_sum children_cons

  pub lacks_here : (prior : List Row) → is_some (count_of rank prior) ≡ false → lacks_child prior (map child_row (part book i to)) ≡ true
  unfolding lacks_child
  lacks_here prior h = ap (lacks_child prior) children_cons ∙ rw h

  pub lacks_on : (prior : List Row) → is_some (count_of rank prior) ≡ true → lacks_child prior (map child_row (part book i to)) ≡ lacks_child prior (map child_row (part book (i + 1) to))
  unfolding lacks_child
  lacks_on prior h = ap (lacks_child prior) children_cons ∙ rw h

  pub terms_on : (G D : List Float) (T : ℕ) (prior : List Row) (s : Sums) → child_terms G D T prior s (map child_row (part book i to))
      ≡ child_terms G D T prior (term G D T s (prior_count (count_of rank prior)) count) (map child_row (part book (i + 1) to))
  unfolding child_terms
  terms_on G D T prior s = ap (child_terms G D T prior s) children_cons

module _ (book : List ℕ) (i to : ℕ) (h : to ≤ i) where
  pub lacks_none : (prior : List Row) → lacks_child prior (map child_row (part book i to)) ≡ false
  unfolding lacks_child
  lacks_none prior = rw (children_none book i to h)

  pub terms_none : (G D : List Float) (T : ℕ) (prior : List Row) (s : Sums) → child_terms G D T prior s (map child_row (part book i to)) ≡ s
  unfolding child_terms
  terms_none G D T prior s = rw (children_none book i to h)
