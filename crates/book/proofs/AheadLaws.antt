-- What the code keeps by reading on to the next node is what a tidy keeps: keys ascend, so a node's rows stand together, and its ending is the first of them. Assumes
-- nothing.
use mathlib.Core.Path.{◌≡◌, refl, sym, ap, ap₂, ◌∙◌}
use Prim.Native.Nat.{ℕ, zero, suc, ◌+◌, ◌*◌, ◌^◌, ◌≤◌, ◌<◌}
use native.Mathlib.Omega.{arith}
use mathlib.Core.List.{List, [], ◌∷◌}
use mathlib.Core.Bool.{Bool, true, false, cond, ◌&&◌, ◌||◌}
use lib.Dec.{eqb, ltb}
use borrow.Author.Tests.{eq-eqb, ne_eqb, lt-ltb}
use Rattle.priors.specs.Rows.{Row, keys, Ascends}
use Rattle.priors.specs.Address.{lift, rank}
use Rattle.entries.specs.Keys.{key_of, end_key, node_of, kind_of}
use Rattle.book.specs.Form.{plain, follows, formed_after, formed}
use Rattle.book.specs.Visits.{evidence_total}
use Rattle.book.specs.Tidy.{keep_where, stays, kept}
use Rattle.book.specs.Ahead.{counts_ahead, first_stays, kept_ahead}
use Rattle.priors.proofs.Orders.{Alike, alike, unlike, compared}
use Rattle.priors.proofs.Tests.{both}
use Rattle.book.proofs.FormLaws.{formed_ascends, ending_key}

-- ---- rows with the form: each by itself

abbrev AllPlain : List Row → Type 0
AllPlain [] = Unit {0}
AllPlain (r ∷ rs) = (plain r ≡ true) × AllPlain rs

plain_after : (k : ℕ) (rs : List Row) → formed_after k rs ≡ true → AllPlain rs
unfolding formed_after
plain_after k [] h = tt
plain_after k (r ∷ rs) h =
    let here = both (plain r) (follows k r && formed_after r.key rs) h in
    let rest = both (follows k r) (formed_after r.key rs) here.1 in
    (here.0, plain_after r.key rs rest.1)

all_plain : (rs : List Row) → formed rs ≡ true → AllPlain rs
unfolding formed
all_plain [] h = tt
all_plain (r ∷ rs) h =
    let here = both (plain r) (eqb (kind_of r.key) 0 && formed_after r.key rs) h in
    let rest = both (eqb (kind_of r.key) 0) (formed_after r.key rs) here.1 in
    (here.0, plain_after r.key rs rest.1)

-- ---- a node's rows stand together

-- the node of a key, by where the key lies
node_low : (n k : ℕ) → n * 2 ^ 96 ≤ k → n ≤ node_of k
unfolding node_of
node_low n k h = omega arith

node_high : (n k : ℕ) → n < node_of k → suc n * 2 ^ 96 ≤ k
unfolding node_of
node_high n k h = omega arith

-- past a node nothing is of it
past_none : (n a : ℕ) (rs : List Row) → suc n * 2 ^ 96 ≤ a → Ascends a (keys rs) → evidence_total n rs ≡ 0
unfolding evidence_total
past_none n a [] l h = refl
past_none n a (r ∷ rs) l h =
    let high : suc n ≤ node_of r.key = node_low (suc n) r.key (omega arith) in
    rw (ne_eqb n (node_of r.key) (λ e. omega arith)) (omega (arith, past_none n (suc r.key) rs (omega arith) h.1))

-- 0 < a + b, by its parts
sum_test : (a b : ℕ) → ltb 0 (a + b) ≡ ltb 0 a || ltb 0 b
sum_test zero b = let e : 0 + b ≡ b = omega arith in ap (ltb 0) e
sum_test (suc a) b = lt-ltb 0 (suc a + b) (omega arith) ∙ sym (rw (lt-ltb 0 (suc a) (omega arith)))

ahead_total : (n a : ℕ) (rs : List Row) → n * 2 ^ 96 ≤ a → Ascends a (keys rs) → counts_ahead n rs ≡ ltb 0 (evidence_total n rs)
unfolding counts_ahead evidence_total
ahead_total n a [] l h = refl
ahead_total n a (r ∷ rs) l h = go (compared n (node_of r.key)) (compared (node_of r.key) n) (ahead_total n (suc r.key) rs (omega arith) h.1)
  where
    low : n ≤ node_of r.key
    low = node_low n r.key (omega arith)

    go : Alike n (node_of r.key) → Alike (node_of r.key) n → counts_ahead n rs ≡ ltb 0 (evidence_total n rs) → counts_ahead n (r ∷ rs) ≡ ltb 0 (evidence_total n (r ∷ rs))
    go (alike q e) (alike p d) ih = rw (e, d, ih) (sym (sum_test r.count (evidence_total n rs)))
    go (unlike q e) (unlike p d) ih =
        let high : suc n * 2 ^ 96 ≤ r.key = node_high n r.key (omega (arith, low)) in
        let none_left : 0 + evidence_total n rs ≡ 0 = omega (arith, past_none n (suc r.key) rs (omega arith) h.1) in
        rw (e, d) (sym (ap (ltb 0) none_left))
    go (alike q e) (unlike p d) ih = absurd (p (sym q))
    go (unlike q e) (alike p d) ih = absurd (q (sym p))

-- ---- what stays

node_start : (k : ℕ) → node_of k * 2 ^ 96 ≤ k
unfolding node_of
node_start k = omega arith

child_above : (k : ℕ) → (kind_of k ≡ 0 → ⊥) → end_key (node_of k) < k
unfolding end_key key_of node_of kind_of rank lift
child_above k z = omega arith

without : (n : ℕ) (r : Row) (rs : List Row) → (n ≡ node_of r.key → ⊥) → evidence_total n (r ∷ rs) ≡ evidence_total n rs
unfolding evidence_total
without n r rs d = rw (ne_eqb n (node_of r.key) d) (omega arith)

-- a key below a node's ending is of another node
below_end : (r : Row) (n : ℕ) → plain r ≡ true → r.key < end_key n → n ≡ node_of r.key → ⊥
below_end r n p l q = go (compared (kind_of r.key) 0)
  where
    go : Alike (kind_of r.key) 0 → ⊥
    go (alike z e) = omega (arith, ending_key r p z, ap end_key q)
    go (unlike z e) = omega (arith, child_above r.key z, ap end_key q)

or_false : (b : Bool) → b || false ≡ b
or_false true = refl
or_false false = refl

module _ (all : List Row) where
  same_test : (a : ℕ) (r : Row) (rs : List Row) → Ascends a (keys (r ∷ rs)) → plain r ≡ true → ((n : ℕ) → a ≤ end_key n → evidence_total n all ≡ evidence_total n (r ∷ rs)) → stays all r ≡ first_stays (r ∷ rs)
  unfolding stays first_stays evidence_total
  same_test a r rs h p t = go (compared (kind_of r.key) 0)
    where
      n : ℕ
      n = node_of r.key

      go : Alike (kind_of r.key) 0 → cond (eqb (kind_of r.key) 0) (ltb 0 (evidence_total n all)) (ltb 0 r.count) ≡ ltb 0 r.count || (eqb (kind_of r.key) 0 && counts_ahead n rs)
      go (alike z e) =
          let is : r.key ≡ end_key n = ending_key r p z in
          let sum : evidence_total n all ≡ r.count + evidence_total n rs = t n (omega arith) ∙ rw (eq-eqb n n refl) in
          let on : counts_ahead n rs ≡ ltb 0 (evidence_total n rs) = ahead_total n (suc r.key) rs (omega (arith, node_start r.key)) h.1 in
          rw (e, sum, on) (sum_test r.count (evidence_total n rs))
      go (unlike z e) = rw e (sym (or_false (ltb 0 r.count)))

  same_kept : (a : ℕ) (rs : List Row) → Ascends a (keys rs) → AllPlain rs → ((n : ℕ) → a ≤ end_key n → evidence_total n all ≡ evidence_total n rs) → keep_where (stays all) rs ≡ kept_ahead rs
  unfolding keep_where kept_ahead
  same_kept a [] h p t = refl
  same_kept a (r ∷ rs) h p t =
      ap₂ (λ (b : Bool) (l : List Row). cond b (r ∷ l) l) (same_test a r rs h p.0 t) (same_kept (suc r.key) rs h.1 p.1 (λ n l. t n (omega arith) ∙ other n l))
    where
      other : (n : ℕ) → suc r.key ≤ end_key n → evidence_total n (r ∷ rs) ≡ evidence_total n rs
      other n l = without n r rs (λ q. below_end r n p.0 l q)

pub kept_ahead_lem : (rs : List Row) → formed rs ≡ true → kept rs ≡ kept_ahead rs
unfolding kept
kept_ahead_lem rs h = same_kept rs 0 rs (formed_ascends rs h) (all_plain rs h) (λ n l. refl)
