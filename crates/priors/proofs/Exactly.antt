-- Where rows ascend, a search that ends at the first row not below its key finds what a look-up by exact key finds: every later row has a greater key.
-- Assumes nothing.
use mathlib.Core.Path.{◌≡◌, refl, sym}
use Prim.Native.Nat.{ℕ, suc, ◌<◌, zero-le}
use native.Mathlib.Omega.{arith}
use mathlib.Core.Bool.{true}
use mathlib.Core.List.{List, [], ◌∷◌, map}
use Rattle.std.specs.Prelude.{None}
use lib.Dec.{ltb}
use borrow.Author.Tests.{eq-eqb, ne_eqb, ltb-true}
use Rattle.priors.specs.declared.records.Record.{Record}
use Rattle.priors.specs.Rows.{Row, row, keys, Ascends, count_of, look}
use Rattle.priors.specs.Priors.{ascends_after, ascends, chain_of, children_of}
use Rattle.priors.proofs.Tests.{both}
use Rattle.priors.proofs.Orders.{Side, below, same, above, side}

-- a key below all is not there
count_low : (k a : ℕ) (rs : List Row) → k < a → Ascends a (keys rs) → count_of k rs ≡ None
unfolding count_of
count_low k a [] l h = refl
count_low k a (r ∷ rs) l h = rw (ne_eqb r.key k (λ e. omega arith)) (count_low k (suc r.key) rs (omega arith) h.1)

pub look_exact : (k a : ℕ) (rs : List Row) → Ascends a (keys rs) → look k rs ≡ count_of k rs
unfolding look count_of
look_exact k a [] h = refl
look_exact k a (r ∷ rs) h = go (side k r.key) (look_exact k (suc r.key) rs h.1)
  where
    go : Side k r.key → look k rs ≡ count_of k rs → look k (r ∷ rs) ≡ count_of k (r ∷ rs)
    go (below l e) ih = rw (e, ne_eqb r.key k (λ q. omega arith)) (sym (count_low k (suc r.key) rs (omega arith) h.1))
    go (same q e) ih = rw (e, eq-eqb r.key k (sym q))
    go (above l e) ih = rw (e, ne_eqb r.key k (λ q. omega arith)) ih

-- ---- the records of a chain as rows

rows_after_lem : (k : ℕ) (rs : List Record) → ascends_after k rs ≡ true → Ascends (suc k) (keys (map (λ (r : Record). row r.rank r.count) rs))
unfolding ascends_after
rows_after_lem k [] h = tt
rows_after_lem k (r ∷ rs) h = let b = both (ltb k r.rank) (ascends_after r.rank rs) h in (ltb-true k r.rank b.0, rows_after_lem r.rank rs b.1)

pub rows_ascend : (rs : List Record) → ascends rs ≡ true → Ascends 0 (keys (map (λ (r : Record). row r.rank r.count) rs))
unfolding ascends
rows_ascend [] h = tt
rows_ascend (r ∷ rs) h = (zero-le, rows_after_lem r.rank rs h)

-- of a chain that ascends
pub chain_exact : (children : List ℕ) (first k : ℕ) → ascends (chain_of children first) ≡ true → look k (children_of children first) ≡ count_of k (children_of children first)
chain_exact children first k h = look_exact k 0 (children_of children first) (rows_ascend (chain_of children first) h)
