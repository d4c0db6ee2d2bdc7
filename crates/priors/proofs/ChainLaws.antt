-- A chain whose links rise is its first record and the chain of that record's link, however many records are allowed for. So a walk along it needs no
-- counting: what is left is always the chain of the link at hand. Assumes nothing.
use mathlib.Core.Path.{◌≡◌, refl, sym, ap}
use mathlib.Core.Logic.{◌⊎◌, inl, inr, ⊎_elim}
use mathlib.Core.Bool.{Bool, true, false, not, ◌&&◌, ◌||◌}
use Prim.Native.Nat.{ℕ, zero, suc, ◌+◌, ◌-◌, ◌≤◌, ◌<◌}
use native.Mathlib.Omega.{arith}
use mathlib.Core.List.{List, [], ◌∷◌, map}
use lib.Dec.{eqb, ltb, leb}
use lib.ListN.{length}
use borrow.Author.Tests.{eqb-true, ltb-true, leb-true, ne_eqb, lt-ltb}
use Rattle.priors.specs.Rows.{row}
use Rattle.priors.specs.declared.records.Record.{Record}
use Rattle.priors.specs.Priors.{record_at, record_count, chain, chain_of, children_of, count_sum, every_node, every_child, first_link_fits, next_link_fits, record_count_fits}
use Rattle.priors.proofs.BelowLaws.{all_at, first_true, second_true}

-- where a record goes on: nowhere, or to a later one
next_of : (link i n : ℕ) → eqb link 0 || (ltb (i + 1) link && leb link n) ≡ true → (link ≡ 0) ⊎ ((i + 1 < link) × (link ≤ n))
next_of link i n h = go (eqb link 0) refl h
  where
    go : (b : Bool) → eqb link 0 ≡ b → b || (ltb (i + 1) link && leb link n) ≡ true → (link ≡ 0) ⊎ ((i + 1 < link) × (link ≤ n))
    go true e h = inl (eqb-true link 0 e)
    go false e h = inr (ltb-true (i + 1) link (first_true (ltb (i + 1) link) (leb link n) h), leb-true link n (second_true (ltb (i + 1) link) (leb link n) h))

module _ (children : List ℕ) (rising : every_child children (next_link_fits children) ≡ true) where
  pub next_link : (i : ℕ) → i < record_count children → ((record_at children i).link ≡ 0) ⊎ ((i + 1 < (record_at children i).link) × ((record_at children i).link ≤ record_count children))
  unfolding next_link_fits
  next_link i h = next_of (record_at children i).link i (record_count children) (all_at (next_link_fits children) (record_count children) i rising h)

  pub next_small : (i : ℕ) → i < record_count children → (record_at children i).link ≤ record_count children
  next_small i h = ⊎_elim (λ e. omega arith) (λ p. p.1) (next_link i h)

  -- one record more allowed for changes nothing once there are enough
  more : (m link : ℕ) → link ≤ record_count children → (link ≡ 0) ⊎ (record_count children < m + link) → chain children m link ≡ chain children (suc m) link
  unfolding chain
  more zero zero h e = refl
  more zero (suc i) h e = absurd (⊎_elim (λ (z : suc i ≡ 0). omega arith) (λ (l : record_count children < 0 + suc i). omega arith) e)
  more (suc m) zero h e = refl
  more (suc m) (suc i) h e =
      ap (λ (l : List Record). record_at children i ∷ l)
      (more m (record_at children i).link (next_small i (omega arith)) (⊎_elim inl (λ p. inr (left e p.0)) (next_link i (omega arith))))
    where
      left : (suc i ≡ 0) ⊎ (record_count children < suc m + suc i) → i + 1 < (record_at children i).link → record_count children < m + (record_at children i).link
      left (inl z) q = absurd (omega arith)
      left (inr l) q = omega arith

  pub chain_end : chain_of children 0 ≡ []
  unfolding chain_of chain
  chain_end = go (record_count children)
    where
      go : (n : ℕ) → chain children n 0 ≡ []
      go zero = refl
      go (suc n) = refl

  -- the chain of a record's number
  chain_from : (i : ℕ) → i < record_count children → chain_of children (suc i) ≡ record_at children i ∷ chain_of children (record_at children i).link
  unfolding chain_of chain
  chain_from i h = go (record_count children) refl
    where
      go : (n : ℕ) → record_count children ≡ n → chain children n (suc i) ≡ record_at children i ∷ chain children n (record_at children i).link
      go zero e = absurd (omega arith)
      go (suc n) e =
          ap (λ (l : List Record). record_at children i ∷ l)
          (more n (record_at children i).link (next_small i h) (⊎_elim inl (λ p. inr (omega arith)) (next_link i h)))

  pub chain_step : (link : ℕ) → 0 < link → link ≤ record_count children → chain_of children link ≡ record_at children (link - 1) ∷ chain_of children (record_at children (link - 1)).link
  chain_step zero h l = absurd (omega arith)
  chain_step (suc i) h l = let e : suc i - 1 ≡ i = omega arith in rw e (chain_from i (omega arith))

  -- as rows
  pub rows_end : children_of children 0 ≡ []
  rows_end = ap (map (λ (r : Record). row r.rank r.count)) chain_end

  pub rows_step : (link : ℕ) → 0 < link → link ≤ record_count children
      → children_of children link ≡ row (record_at children (link - 1)).rank (record_at children (link - 1)).count ∷ children_of children (record_at children (link - 1)).link
  rows_step link h l = ap (map (λ (r : Record). row r.rank r.count)) (chain_step link h l)

  -- the length falls
  pub chain_length : (link : ℕ) → 0 < link → link ≤ record_count children → length (chain_of children link) ≡ suc (length (chain_of children (record_at children (link - 1)).link))
  chain_length link h l = ap length (chain_step link h l)

  -- a chain counts as much as its first record, at least
  pub chain_counts : (link : ℕ) → 0 < link → link ≤ record_count children → (record_at children (link - 1)).count ≤ count_sum (children_of children link)
  unfolding count_sum
  chain_counts link h l =
      let on : count_sum (children_of children link) ≡ (record_at children (link - 1)).count + count_sum (children_of children (record_at children (link - 1)).link) = ap count_sum (rows_step link h l) in
      omega arith

-- where no count is 0, a total without a singleton is not 0 where there is a chain
pub total_linked : (children : List ℕ) → every_child children (next_link_fits children) ≡ true → every_child children (record_count_fits children) ≡ true → (link ending : ℕ) → link ≤ record_count children → ending ≡ 0
    → not (eqb link 0) ≡ ltb 0 (ending + count_sum (children_of children link))
unfolding count_sum record_count_fits
total_linked children rising counts zero ending l e = rw (e, rows_end children rising) (cc)
total_linked children rising counts (suc k) ending l e =
    let here : 0 < (record_at children (suc k - 1)).count = ltb-true 0 (record_at children (suc k - 1)).count (all_at (record_count_fits children) (record_count children) (suc k - 1) counts (omega arith)) in
    rw (ne_eqb (suc k) 0 (λ e. omega arith)) (sym (lt-ltb 0 (ending + count_sum (children_of children (suc k))) (omega (arith, chain_counts children rising (suc k) (omega arith) l))))

-- where first links fit, a node's is 0 or a record's number
pub first_small : (nodes children : List ℕ) → every_node nodes (first_link_fits nodes children) ≡ true → (i : ℕ) → i < record_count nodes → (record_at nodes i).link ≤ record_count children
unfolding first_link_fits
first_small nodes children fit i l = leb-true (record_at nodes i).link (record_count children) (all_at (first_link_fits nodes children) (record_count nodes) i fit l)
