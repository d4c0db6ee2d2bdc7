-- How many child records a look-up reads, by the walk that ends with the first row not below its key; and that nothing past them decides. Assumes nothing.
use mathlib.Core.Path.{◌≡◌, refl, sym, ap, ◌∙◌}
use Prim.Native.Nat.{ℕ, zero, suc, ◌+◌, ◌-◌, ◌≤◌, ◌<◌, compare}
use native.Mathlib.Omega.{arith}
use mathlib.Core.Bool.{true}
use mathlib.Core.List.{List, [], ◌∷◌}
use Rattle.std.specs.Prelude.{Option, None, Some}
use lib.ListN.{length, take, length-map}
use borrow.Author.Tests.{lt-ltb, le-ltb}
use Rattle.priors.specs.declared.records.Record.{Record}
use Rattle.priors.specs.Limits.{max_chain}
use Rattle.priors.specs.Reading.{Reading, refused, answered}
use Rattle.priors.specs.Rows.{Row, row, keys, Ascends, choose, count_of, look}
use Rattle.priors.specs.Priors.{LentPriors, lent_priors, layer_of, record_at, record_count, records, ascends, find_record, chain_of, children_of, every_child, next_link_fits, prior_of, priors_refusal}
use Rattle.priors.specs.Children.{below_in, reads_of, ChildLook, child_asked, ReadsAtMost, SameAsRead, NothingPast}
use Rattle.priors.proofs.Tests.{ltb_same}
use Rattle.priors.proofs.Orders.{Side, below, same, above, side, compare_lt, compare_gt, compare_self}
use Rattle.priors.proofs.Exactly.{rows_ascend, chain_exact}
use Rattle.priors.proofs.ChainLaws.{rows_step, rows_end}
use Rattle.priors.proofs.PriorLaws.{accepted, found_fits}

-- the rows of a walk that ends with the first one not below k
unfoldable pub walked : ℕ → List Row → ℕ
walked k [] = 0
walked k (r ∷ rs) = choose (compare k r.key) 1 1 (suc (walked k rs))

-- ---- where rows ascend, it is those below k and one more

-- none is below a key that is below all
none_below : (k a : ℕ) (rs : List Row) → k ≤ a → Ascends a (keys rs) → below_in k rs ≡ 0
unfolding below_in
none_below k a [] l h = refl
none_below k a (r ∷ rs) l h = rw (le-ltb r.key k (omega arith), none_below k (suc r.key) rs (omega arith) h.1)

reads_stop : (k : ℕ) (r : Row) (rs : List Row) → k ≤ r.key → Ascends (suc r.key) (keys rs) → reads_of k (r ∷ rs) ≡ 1
unfolding reads_of below_in
reads_stop k r rs l h = rw (le-ltb r.key k l, none_below k (suc r.key) rs (omega arith) h, lt-ltb 0 (length (r ∷ rs)) (omega arith))

reads_on : (k : ℕ) (r : Row) (rs : List Row) → r.key < k → reads_of k (r ∷ rs) ≡ suc (reads_of k rs)
unfolding reads_of below_in
reads_on k r rs l = rw (lt-ltb r.key k l, ltb_same (1 + below_in k rs) (length (r ∷ rs)) (below_in k rs) (length rs) (λ h. omega arith) (λ h. omega arith)) (omega arith)

reads_exact : (k a : ℕ) (rs : List Row) → Ascends a (keys rs) → walked k rs ≡ reads_of k rs
unfolding walked reads_of below_in
reads_exact k a [] h = refl
reads_exact k a (r ∷ rs) h = go (side k r.key) (reads_exact k (suc r.key) rs h.1)
  where
    go : Side k r.key → walked k rs ≡ reads_of k rs → walked k (r ∷ rs) ≡ reads_of k (r ∷ rs)
    go (below l e) ih = rw e (sym (reads_stop k r rs (omega arith) h.1))
    go (same q e) ih = rw e (sym (reads_stop k r rs (omega arith) h.1))
    go (above l e) ih = rw e (ap suc ih ∙ sym (reads_on k r rs l))

-- of a chain that ascends
pub chain_reads : (children : List ℕ) (first k : ℕ) → ascends (chain_of children first) ≡ true → walked k (children_of children first) ≡ reads_of k (children_of children first)
chain_reads children first k h = reads_exact k 0 (children_of children first) (rows_ascend (chain_of children first) h)

-- no more than there are
walked_le : (k : ℕ) (rs : List Row) → walked k rs ≤ length rs
unfolding walked
walked_le k [] = omega arith
walked_le k (r ∷ rs) = go (side k r.key) (walked_le k rs)
  where
    go : Side k r.key → walked k rs ≤ length rs → walked k (r ∷ rs) ≤ length (r ∷ rs)
    go (below l e) ih = rw e (omega arith)
    go (same q e) ih = rw e (omega arith)
    go (above l e) ih = rw e (omega arith)

-- ---- a step of the walk along a chain

-- what the walk finds, and how many rows it reads
pub record Walk (k : ℕ) (rs : List Row) (found : Option ℕ) (read : ℕ) : Type 0 where
  pub finds : look k rs ≡ found
  pub reads : walked k rs ≡ read

module _ (children : List ℕ) (rising : every_child children (next_link_fits children) ≡ true) (k link : ℕ) (next : Record) (is : next ≡ record_at children (link - 1)) (within : 0 < link) (fits : link ≤ record_count children) where
  first_row : children_of children link ≡ row next.rank next.count ∷ children_of children next.link
  first_row = rw is (rows_step children rising link within fits)

  -- by the record at the link: it is past the key, has it, or is below it
  pub walk_past : k < next.rank → Walk k (children_of children link) None 1
  unfolding look walked
  walk_past l = rw first_row (record { finds = rw (compare_lt k next.rank l); reads = rw (compare_lt k next.rank l) })

  pub walk_found : k ≡ next.rank → Walk k (children_of children link) (Some next.count) 1
  unfolding look walked
  walk_found e = rw (first_row, ← e) (record { finds = rw (compare_self k); reads = rw (compare_self k) })

  pub walk_on : next.rank < k → Walk k (children_of children link) (look k (children_of children next.link)) (suc (walked k (children_of children next.link)))
  unfolding look walked
  walk_on l = rw first_row (record { finds = rw (compare_gt k next.rank l); reads = rw (compare_gt k next.rank l) })

-- no chain: nothing is found, and nothing read
pub walk_none : (children : List ℕ) → every_child children (next_link_fits children) ≡ true → (k link : ℕ) → link ≡ 0 → Walk k (children_of children link) None 0
unfolding look walked
walk_none children rising k link e = rw (e, rows_end children rising) (record { finds = refl; reads = refl })

-- where a chain ascends, a walk's end is the end of the look-up
pub walk_ends : (children : List ℕ) (first link k read n : ℕ) (found : Option ℕ) → ascends (chain_of children first) ≡ true
    → look k (children_of children first) ≡ look k (children_of children link)
    → walked k (children_of children first) ≡ read + walked k (children_of children link)
    → Walk k (children_of children link) found n
    → (found ≡ count_of k (children_of children first)) × (read + n ≡ reads_of k (children_of children first))
walk_ends children first link k read n found up finds counted walk =
    (sym (sym (chain_exact children first k up) ∙ finds ∙ walk.finds), omega (arith, chain_reads children first k up, counted, walk.reads))

-- ---- nothing past them decides

same_head : (a b : Row) (xs ys : List Row) (n : ℕ) → take (suc n) (a ∷ xs) ≡ take (suc n) (b ∷ ys) → (a ≡ b) × (take n xs ≡ take n ys)
same_head a b xs ys n h = (cc, cc)

-- rows that are the same as far as the first are walked, and end with them if these are all below k
same_walk : (k : ℕ) (rs others : List Row) → take (walked k rs) rs ≡ take (walked k rs) others → (below_in k rs ≡ length rs → length others ≡ length rs)
    → (look k rs ≡ look k others) × (walked k rs ≡ walked k others)
unfolding look walked below_in
same_walk k [] [] h ends = (refl, refl)
same_walk k [] (o ∷ os) h ends = absurd (omega (arith, ends refl))
same_walk k (r ∷ rs) [] h ends = absurd (go (side k r.key))
  where
    go : Side k r.key → ⊥
    go (below l e) = let z = ap length (rw e at h) in omega arith
    go (same q e) = let z = ap length (rw e at h) in omega arith
    go (above l e) = let z = ap length (rw e at h) in omega arith
same_walk k (r ∷ rs) (o ∷ os) h ends = go (side k r.key) (λ same ended. same_walk k rs os same ended)
  where
    go : Side k r.key → (take (walked k rs) rs ≡ take (walked k rs) os → (below_in k rs ≡ length rs → length os ≡ length rs) → (look k rs ≡ look k os) × (walked k rs ≡ walked k os))
        → (look k (r ∷ rs) ≡ look k (o ∷ os)) × (walked k (r ∷ rs) ≡ walked k (o ∷ os))
    go (below l e) further = rw (← (same_head r o rs os 0 (rw e at h)).0, e) (refl, refl)
    go (same q e) further = rw (← (same_head r o rs os 0 (rw e at h)).0, e) (refl, refl)
    go (above l e) further =
        let both = same_head r o rs os (walked k rs) (rw e at h) in
        let rest = further both.1 (λ all. omega (arith, ends (rw (lt-ltb r.key k l) (omega arith)))) in
        rw (← both.0, e) (rest.0, ap suc rest.1)

-- chains that ascend, of which the second is the first as far as this is read
same_look : (children others : List ℕ) (first k : ℕ) → ascends (chain_of children first) ≡ true → ascends (chain_of others first) ≡ true
    → SameAsRead k (children_of children first) (children_of others first)
    → (count_of k (children_of children first) ≡ count_of k (children_of others first)) × (reads_of k (children_of children first) ≡ reads_of k (children_of others first))
same_look children others first k up others-up (h, ends) =
    let a = chain_reads children first k up in
    let both = same_walk k (children_of children first) (children_of others first) (rw (← a) at h) ends in
    (sym (chain_exact children first k up) ∙ both.0 ∙ chain_exact others first k others-up, sym a ∙ both.1 ∙ chain_reads others first k others-up)

-- ---- in lent priors

module _ (p : LentPriors) (rank wanted : ℕ) (passed : priors_refusal p.nodes p.children (layer_of p.floor) ≡ 0) where
  -- by the node record that is found, or that none is
  pub told_in : (node : Record) → find_record (layer_of p.floor) rank (records p.nodes) ≡ Some node
      → child_asked p rank wanted ≡ answered (record { count = count_of wanted (children_of p.children node.link); read = reads_of wanted (children_of p.children node.link) })
  unfolding prior_of
  told_in node found = rw (passed, found)

  pub told_without : find_record (layer_of p.floor) rank (records p.nodes) ≡ None → child_asked p rank wanted ≡ answered (record { count = None; read = 0 })
  unfolding prior_of
  told_without missing = rw (passed, missing)

pub nothing_past : NothingPast
nothing_past nodes children others floor rank wanted passed others-pass agree = go (find_record (layer_of floor) rank (records nodes)) refl
  where
    one : LentPriors
    one = lent_priors nodes children floor

    other : LentPriors
    other = lent_priors nodes others floor

    go : (o : Option Record) → find_record (layer_of floor) rank (records nodes) ≡ o → child_asked one rank wanted ≡ child_asked other rank wanted
    go None missing = told_without one rank wanted passed missing ∙ sym (told_without other rank wanted others-pass missing)
    go (Some node) found =
        let fit = found_fits nodes children (layer_of floor) (accepted nodes children (layer_of floor) passed) rank node found in
        let others-fit = found_fits nodes others (layer_of floor) (accepted nodes others (layer_of floor) others-pass) rank node found in
        let both = same_look children others node.link wanted fit.ascending others-fit.ascending (agree node found) in
        told_in one rank wanted passed node found ∙ (λ i. answered (record { count = both.0 i; read = both.1 i })) ∙ sym (told_in other rank wanted others-pass node found)

answer_is : (a b : ChildLook) → answered a ≡ answered b → a ≡ b
answer_is a b h = cc

pub reads_at_most : ReadsAtMost
reads_at_most p rank wanted l h = go (priors_refusal p.nodes p.children (layer_of p.floor)) refl
  where
    by_record : priors_refusal p.nodes p.children (layer_of p.floor) ≡ 0 → (o : Option Record) → find_record (layer_of p.floor) rank (records p.nodes) ≡ o → l.read ≤ max_chain
    by_record passed None missing =
        let e = answer_is _ _ (sym (told_without p rank wanted passed missing) ∙ h) in
        omega (arith, ap (λ (x : ChildLook). x.read) e)
    by_record passed (Some node) found =
        let e = answer_is _ _ (sym (told_in p rank wanted passed node found) ∙ h) in
        let fit = found_fits p.nodes p.children (layer_of p.floor) (accepted p.nodes p.children (layer_of p.floor) passed) rank node found in
        omega (arith, ap (λ (x : ChildLook). x.read) e, fit.short, chain_reads p.children node.link wanted fit.ascending, walked_le wanted (children_of p.children node.link), length-map (chain_of p.children node.link) (λ (r : Record). row r.rank r.count))

    go : (n : ℕ) → priors_refusal p.nodes p.children (layer_of p.floor) ≡ n → l.read ≤ max_chain
    go zero passed = by_record passed (find_record (layer_of p.floor) rank (records p.nodes)) refl
    go (suc n) e = let z : ◌≡◌ {A = Reading ChildLook} (refused (suc n) None) (answered l) = sym (rw e) ∙ h in let y : ◌≡◌ {A = ℕ} 0 1 = cc in absurd (omega arith)
