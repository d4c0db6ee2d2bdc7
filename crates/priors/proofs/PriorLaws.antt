-- What accepted priors tell: nodes ascend, links rise, the chain of a node that is found fits, so that its total does, and neither its total nor a
-- child's count is 0. Assumes nothing.
use mathlib.Core.Path.{◌≡◌, refl, sym, ap, ◌∙◌}
use mathlib.Core.Bool.{Bool, true, false, cond}
use Prim.Native.Nat.{ℕ, zero, suc, ◌+◌, ◌*◌, ◌%◌, ◌^◌, ◌≤◌, ◌<◌}
use native.Mathlib.Omega.{arith}
use mathlib.Core.List.{List, [], ◌∷◌, ◌++◌, map}
use Rattle.std.specs.List.{fold, sum_by}
use Rattle.std.specs.Prelude.{Option, None, Some, option_map}
use lib.Dec.{eqb, leb, ltb}
use lib.ListN.{length, get_or}
use borrow.Author.Tests.{leb-true, ltb-true}
use Rattle.priors.specs.Limits.{max_chain, max_nodes, max_children, record_size}
use Rattle.priors.specs.declared.records.Record.{Record}
use Rattle.priors.specs.Rows.{row, count_of}
use Rattle.priors.specs.Rules.{Rule, rule, first_broken}
use Rattle.priors.specs.Priors.{record_at, record_count, records, ascends, find_record, chain, chain_of, Counts, count_sum, total, prior_of, prior_of_node, whole_records, first_link_fits, next_link_fits, chain_fits, chain_ascends, record_count_fits, total_fits, points_differ, found_by, every_node, every_child, record_rules, records_refusal, priors_refusal}
use Rattle.priors.proofs.Ranks.{Bytes, word_lt}
use Rattle.priors.proofs.BelowLaws.{second_true, all_at}
use Rattle.priors.proofs.ChainLaws.{next_small}
use Rattle.priors.proofs.RecordLaws.{no_record, length_records, get_d_records}

-- a rule that is not the first broken one holds, and so do those after it
unbroken : (b : Bool) (n rest : ℕ) → cond b rest (suc n) ≡ 0 → (b ≡ true) × (rest ≡ 0)
unbroken true n rest h = (refl, h)
unbroken false n rest h = absurd (omega arith)

-- 3: whole records are not too many
pub not_too_many : (s : List ℕ) (most : ℕ) → whole_records s most ≡ true → record_count s ≤ most
unfolding whole_records
not_too_many s most h = leb-true (record_count s) most (second_true (eqb (length s % record_size) 0) (leb (record_count s) most) h)

-- what 3 to 7 leave
pub record Recorded (nodes children : List ℕ) : Type 0 where
  pub whole : whole_records nodes max_nodes ≡ true
  pub children_whole : whole_records children max_children ≡ true
  pub ordered : ascends (records nodes) ≡ true
  pub firsts : every_node nodes (first_link_fits nodes children) ≡ true
  pub rising : every_child children (next_link_fits children) ≡ true
  pub lengths : every_node nodes (chain_fits nodes children) ≡ true
  pub ascending : every_node nodes (chain_ascends nodes children) ≡ true
  pub counts : every_child children (record_count_fits children) ≡ true
  pub totals : every_node nodes (total_fits nodes children) ≡ true

module _ (nodes children : List ℕ) where
  pub recorded : records_refusal nodes children ≡ 0 → Recorded nodes children
  unfolding records_refusal
  recorded h =
      let a = unbroken (whole_records nodes max_nodes) 2 _ h in
      let b = unbroken (whole_records children max_children) 2 _ a.1 in
      let d = unbroken (ascends (records nodes)) 3 _ b.1 in
      let e = unbroken (every_node nodes (first_link_fits nodes children)) 4 _ d.1 in
      let f = unbroken (every_child children (next_link_fits children)) 4 _ e.1 in
      let g = unbroken (every_node nodes (chain_fits nodes children)) 4 _ f.1 in
      let i = unbroken (every_node nodes (chain_ascends nodes children)) 5 _ g.1 in
      let j = unbroken (every_child children (record_count_fits children)) 6 _ i.1 in
      let k = unbroken (every_node nodes (total_fits nodes children)) 6 _ j.1 in
      record { whole = a.0; children_whole = b.0; ordered = d.0; firsts = e.0; rising = f.0; lengths = g.0; ascending = i.0; counts = j.0; totals = k.0 }

-- a number of the first rules comes before the last
first_broken_lem : (rules : List Rule) (last : Rule) (m : ℕ) → first_broken rules ≡ suc m → first_broken (rules ++ last ∷ []) ≡ suc m
first_broken_lem [] last m h = absurd (omega arith)
first_broken_lem (r ∷ rules) last m h = go r.holds h (first_broken_lem rules last m)
  where
    go : (b : Bool) → cond b (first_broken rules) r.number ≡ suc m → (first_broken rules ≡ suc m → first_broken (rules ++ last ∷ []) ≡ suc m) → cond b (first_broken (rules ++ last ∷ [])) r.number ≡ suc m
    go true h on = on h
    go false h on = h

module _ (nodes children : List ℕ) (layer : ℕ) where
  -- a number of the records is that of the priors
  pub records_first : (m : ℕ) → records_refusal nodes children ≡ suc m → priors_refusal nodes children layer ≡ suc m
  unfolding records_refusal priors_refusal
  records_first m h = first_broken_lem (record_rules nodes children) (rule 22 (points_differ nodes layer)) m h

  -- where they have none, 22 decides
  pub points_last : Recorded nodes children → priors_refusal nodes children layer ≡ cond (points_differ nodes layer) 0 22
  unfolding priors_refusal
  points_last ok = rw (ok.whole, ok.children_whole, ok.ordered, ok.firsts, ok.rising, ok.lengths, ok.ascending, ok.counts, ok.totals)

-- where the records have no number, nodes ascend and are not too many
module _ (nodes children : List ℕ) (h : records_refusal nodes children ≡ 0) where
  pub nodes_ordered : ascends (records nodes) ≡ true
  nodes_ordered = (recorded nodes children h).ordered

  pub nodes_few : record_count nodes ≤ max_nodes
  nodes_few = not_too_many nodes max_nodes (recorded nodes children h).whole

-- what accepted priors have
pub record Accepted (nodes children : List ℕ) (layer : ℕ) : Type 0 where
  pub records_fit : Recorded nodes children
  pub apart : points_differ nodes layer ≡ true

pub accepted : (nodes children : List ℕ) (layer : ℕ) → priors_refusal nodes children layer ≡ 0 → Accepted nodes children layer
accepted nodes children layer h = go (records_refusal nodes children) refl
  where
    go : (n : ℕ) → records_refusal nodes children ≡ n → Accepted nodes children layer
    go zero e =
        let fit = recorded nodes children e in
        record { records_fit = fit; apart = (unbroken (points_differ nodes layer) 21 0 (sym (points_last nodes children layer fit) ∙ h)).0 }
    go (suc m) e = absurd (omega (arith, h, records_first nodes children layer m e))

-- ---- a record that is found is one of the list

found_in : (layer k : ℕ) (rs : List Record) (r : Record) → find_record layer k rs ≡ Some r → (i : ℕ) × ((i < length rs) × (get_or rs i no_record ≡ r))
unfolding find_record
found_in layer k [] r h = let z : ◌≡◌ {A = ℕ} 0 1 = cc in absurd (omega arith)
found_in layer k (x ∷ rs) r h = go (found_by layer k x.rank) h (found_in layer k rs r)
  where
    go : (b : Bool) → cond b (Some x) (find_record layer k rs) ≡ Some r → (find_record layer k rs ≡ Some r → (i : ℕ) × ((i < length rs) × (get_or rs i no_record ≡ r)))
        → (i : ℕ) × ((i < suc (length rs)) × (get_or (x ∷ rs) i no_record ≡ r))
    go true h on = (0, (omega arith, cc))
    go false h on = let p = on h in (suc p.0, (omega (arith, p.1.0), p.1.1))

-- its count is a field
pub found_small : (nodes : List ℕ) → Bytes nodes → (layer k : ℕ) (r : Record) → find_record layer k (records nodes) ≡ Some r → r.count < 2 ^ 32
unfolding record_at
found_small nodes bytes layer k r h =
    let p = found_in layer k (records nodes) r h in
    let is : record_at nodes p.0 ≡ r = sym (get_d_records nodes p.0 (omega (arith, length_records nodes, p.1.0))) ∙ p.1.1 in
    rw (← is) (word_lt nodes bytes (16 * p.0 + 8))

-- a rule that every node record keeps holds for one that is found
found_keeps : (nodes : List ℕ) (test : Record → Bool) → every_node nodes (λ i. test (record_at nodes i)) ≡ true → (layer k : ℕ) (r : Record) → find_record layer k (records nodes) ≡ Some r → test r ≡ true
found_keeps nodes test all layer k r h =
    let p = found_in layer k (records nodes) r h in
    let l : p.0 < record_count nodes = omega (arith, length_records nodes, p.1.0) in
    let is : record_at nodes p.0 ≡ r = sym (get_d_records nodes p.0 l) ∙ p.1.1 in
    ap test (sym is) ∙ all_at (λ i. test (record_at nodes i)) (record_count nodes) p.0 all l

-- the chain of a node that is found: its first link is a record's number or 0, it has at most 64 records, and it ascends
pub record ChainFits (children : List ℕ) (node : Record) : Type 0 where
  pub link_fits : node.link ≤ record_count children
  pub short : length (chain_of children node.link) ≤ max_chain
  pub ascending : ascends (chain_of children node.link) ≡ true

-- a prior with a total that is not 0, and no child's count that is
pub record Positive (p : Counts) : Type 0 where
  pub total_positive : 0 < total p
  pub count_positive : (k c : ℕ) → count_of k p.children ≡ Some c → 0 < c

module _ (nodes children : List ℕ) (layer : ℕ) (ok : Accepted nodes children layer) where
  pub found_fits : (k : ℕ) (r : Record) → find_record layer k (records nodes) ≡ Some r → ChainFits children r
  unfolding first_link_fits chain_fits chain_ascends
  found_fits k r h = record {
    link_fits = leb-true r.link (record_count children) (found_keeps nodes (λ n. leb n.link (record_count children)) ok.records_fit.firsts layer k r h);
    short = leb-true (length (chain_of children r.link)) max_chain (found_keeps nodes (λ n. leb (length (chain_of children n.link)) max_chain) ok.records_fit.lengths layer k r h);
    ascending = found_keeps nodes (λ n. ascends (chain_of children n.link)) ok.records_fit.ascending layer k r h;
  }

  -- the records of a chain keep 7
  chain_positive : (n link : ℕ) → link ≤ record_count children → (k c : ℕ) → count_of k (map (λ (r : Record). row r.rank r.count) (chain children n link)) ≡ Some c → 0 < c
  unfolding chain count_of record_count_fits
  chain_positive zero link l k c h = let z : ◌≡◌ {A = ℕ} 0 1 = cc in absurd (omega arith)
  chain_positive (suc n) zero l k c h = let z : ◌≡◌ {A = ℕ} 0 1 = cc in absurd (omega arith)
  chain_positive (suc n) (suc i) l k c h =
      go (eqb (record_at children i).rank k) h (chain_positive n (record_at children i).link (next_small children ok.records_fit.rising i (omega arith)) k c)
    where
      go : {rest : Option ℕ} (b : Bool) → cond b (Some (record_at children i).count) rest ≡ Some c → (rest ≡ Some c → 0 < c) → 0 < c
      go true h on =
          let e : (record_at children i).count ≡ c = cc in
          rw e at (ltb-true 0 (record_at children i).count (all_at (record_count_fits children) (record_count children) i ok.records_fit.counts (omega arith)))
      go false h on = on h

  pub prior_positive : (k : ℕ) (p : Counts) → prior_of nodes children layer k ≡ Some p → Positive p
  unfolding prior_of total_fits chain_of
  prior_positive k p h = go (find_record layer k (records nodes)) refl h
    where
      go : (o : Option Record) → find_record layer k (records nodes) ≡ o → option_map (prior_of_node children) o ≡ Some p → Positive p
      go None e h = let z : ◌≡◌ {A = ℕ} 0 1 = cc in absurd (omega arith)
      go (Some r) e h =
          let is : prior_of_node children r ≡ p = cc in
          rw (← is)
          (record {
            total_positive = ltb-true 0 (total (prior_of_node children r)) (found_keeps nodes (λ n. ltb 0 (total (prior_of_node children n))) ok.records_fit.totals layer k r e);
            count_positive = chain_positive (record_count children) r.link (found_fits k r e).link_fits;
          })

-- ---- totals fit a number of 64 bits: a chain has at most 64 counts of 32 bits

module _ (children : List ℕ) (bytes : Bytes children) where
  chain_sum : (n link : ℕ) → count_sum (map (λ (r : Record). row r.rank r.count) (chain children n link)) ≤ 2 ^ 32 * length (chain children n link)
  unfolding chain count_sum record_at
  chain_sum zero link = omega arith
  chain_sum (suc n) zero = omega arith
  chain_sum (suc n) (suc i) = omega (arith, chain_sum n (record_at children i).link, word_lt children bytes (16 * i + 8))

  pub total_le : (node : Record) → node.count < 2 ^ 32 → ChainFits children node → total (prior_of_node children node) < 2 ^ 32 * 65
  unfolding total chain_of
  total_le node small fits = omega (arith, chain_sum (record_count children) node.link, fits.short)

-- counts added up one after another
summed_from : (a : ℕ) (rs : List Record) → fold (λ b (r : Record). b + r.count) a rs ≡ a + count_sum (map (λ (r : Record). row r.rank r.count) rs)
unfolding count_sum
summed_from a [] = omega arith
summed_from a (r ∷ rs) = summed_from (a + r.count) rs ∙ omega arith

pub summed : (rs : List Record) → sum_by (λ (r : Record). r.count) rs ≡ count_sum (map (λ (r : Record). row r.rank r.count) rs)
summed rs = summed_from 0 rs ∙ omega arith

-- the counts of a short chain
pub chain_little : (children : List ℕ) (link : ℕ) → Bytes children → length (chain_of children link) ≤ max_chain → sum_by (λ (r : Record). r.count) (chain_of children link) ≤ 2 ^ 32 * 64
unfolding chain_of
chain_little children link bytes short = omega (arith, summed (chain_of children link), chain_sum children bytes (record_count children) link, short)
