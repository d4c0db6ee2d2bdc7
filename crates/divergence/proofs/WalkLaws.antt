-- A walk from node to node over a book's entries: the node at a place and the nodes after it, and how each reading goes on from one node to the next. Assumes nothing.
use Rattle.std.proofs.Common.{◌≡◌, ℕ, zero, suc, ◌+◌, ◌-◌, ◌*◌, ◌<◌, ◌≤◌, Bool, true, false, cond, eqb, List, [], ◌∷◌, map, length, drop, sym, refl, ap, ◌∙◌, ap₂, add-zero, zero-add, arith, drop-drop}
use lib.Ieee.{Float, lt}
use Rattle.priors.specs.Address.{address_of}
use Rattle.priors.specs.Rows.{Row}
use Rattle.priors.specs.Refusals.{node_reason_number}
use Rattle.priors.proofs.Orders.{Alike, alike, unlike, compared}
use Rattle.priors.specs.Priors.{prior_of}
use Rattle.entries.specs.Keys.{node_of, kind_of}
use Rattle.entries.specs.Entries.{row_at, rows}
use Rattle.entries.proofs.EntryLaws.{length_rows}
use Rattle.std.specs.Prelude.{Option, None, Some, Result, Ok, Err}
use Rattle.priors.specs.declared.refusals.NodeReason.{NodeReason}
use Rattle.priors.specs.declared.refusals.NodeReason.TheVariants.{MissingChild, PastTable}
use Rattle.divergence.specs.declared.statistics.KLDivergenceStats.{KLDivergenceStats}
use Rattle.divergence.specs.Numbers.{tiny64}
use Rattle.divergence.specs.Nodes.{Node, child_row, spread, listed_nodes}
use Rattle.divergence.specs.Parts.{part, leading, node_at, evidence_at, nodes_from}
use Rattle.divergence.specs.Divergence.{node_divergence}
use Rattle.divergence.specs.declared.divergences.Measure.{Measure}
use Rattle.divergence.specs.Statistics.{Walk, stopped, walked, visited, walk, walk_by, noted, counted, stats_over, no_stats}
use Rattle.divergence.specs.Readings.{Reading, refused, answered, Statistics, stats_reading_of}
use Rattle.divergence.proofs.NodeLaws.{part_cons, part_none, leading_le, count_here}

-- ---- rows as children and nodes

module _ (r : Row) (rs : List Row) where
  spread_ending : eqb (kind_of r.key) 0 ≡ true → spread (r ∷ rs) ≡ ([], record { address = node_of r.key; evidence = record { ending = r.count; children = (spread rs).0 } } ∷ (spread rs).1)
  unfolding spread
  spread_ending e = rw e

  spread_child : eqb (kind_of r.key) 0 ≡ false → spread (r ∷ rs) ≡ (child_row r ∷ (spread rs).0, (spread rs).1)
  unfolding spread
  spread_child e = rw e

  pub nodes_ending : eqb (kind_of r.key) 0 ≡ true → listed_nodes (r ∷ rs) ≡ record { address = node_of r.key; evidence = record { ending = r.count; children = (spread rs).0 } } ∷ listed_nodes rs
  unfolding listed_nodes
  nodes_ending e = ap (λ (p : List Row × List Node). p.1) (spread_ending e)

  pub nodes_child : eqb (kind_of r.key) 0 ≡ false → listed_nodes (r ∷ rs) ≡ listed_nodes rs
  unfolding listed_nodes
  nodes_child e = ap (λ (p : List Row × List Node). p.1) (spread_child e)

  pub front_ending : eqb (kind_of r.key) 0 ≡ true → (spread (r ∷ rs)).0 ≡ []
  front_ending e = ap (λ (p : List Row × List Node). p.0) (spread_ending e)

  pub front_child : eqb (kind_of r.key) 0 ≡ false → (spread (r ∷ rs)).0 ≡ child_row r ∷ (spread rs).0
  front_child e = ap (λ (p : List Row × List Node). p.0) (spread_child e)

  lead_ending : eqb (kind_of r.key) 0 ≡ true → leading (r ∷ rs) ≡ 0
  unfolding leading
  lead_ending e = rw e

  lead_child : eqb (kind_of r.key) 0 ≡ false → leading (r ∷ rs) ≡ suc (leading rs)
  unfolding leading
  lead_child e = rw e

  -- where no child leads, an ending stands first
  ends_first : leading (r ∷ rs) ≡ 0 → eqb (kind_of r.key) 0 ≡ true
  ends_first h = go (eqb (kind_of r.key) 0) refl
    where
      go : (b : Bool) → eqb (kind_of r.key) 0 ≡ b → eqb (kind_of r.key) 0 ≡ true
      go true e = e
      go false e = absurd (omega (arith, h, lead_child e))

-- the entries after the children at the front
abbrev past_children : List ℕ → ℕ → ℕ → List Row
past_children s n k = rows (drop (24 * k) s) (n - k)

past_on : (s : List ℕ) (n k : ℕ) → past_children (drop 24 s) n k ≡ past_children s (suc n) (suc k)
past_on s n k =
    let on : 24 + 24 * k ≡ 24 * suc k = omega arith in
    let less : n - k ≡ suc n - suc k = omega arith in
    ap₂ (λ (t : List ℕ) (m : ℕ). rows t m) (drop-drop (24 * k) 24 s ∙ ap (λ (j : ℕ). drop j s) on) less

front_none : (s : List ℕ) → (spread []).0 ≡ map child_row (rows s (leading []))
unfolding spread leading rows
front_none s = refl

-- the children at the front are the entries that lead
pub front_children : (s : List ℕ) (n : ℕ) → (spread (rows s n)).0 ≡ map child_row (rows s (leading (rows s n)))
unfolding rows
front_children s zero = front_none s
front_children s (suc n) = go (eqb (kind_of (row_at s 0).key) 0) refl (front_children (drop 24 s) n)
  where
    go : (b : Bool) → eqb (kind_of (row_at s 0).key) 0 ≡ b → (spread (rows (drop 24 s) n)).0 ≡ map child_row (rows (drop 24 s) (leading (rows (drop 24 s) n)))
        → (spread (rows s (suc n))).0 ≡ map child_row (rows s (leading (rows s (suc n))))
    go true e h = front_ending (row_at s 0) (rows (drop 24 s) n) e ∙ sym (ap (λ (k : ℕ). map child_row (rows s k)) (lead_ending (row_at s 0) (rows (drop 24 s) n) e))
    go false e h =
        front_child (row_at s 0) (rows (drop 24 s) n) e
        ∙ ap (λ (l : List Row). child_row (row_at s 0) ∷ l) h
        ∙ sym (ap (λ (k : ℕ). map child_row (rows s k)) (lead_child (row_at s 0) (rows (drop 24 s) n) e))

-- what holds of a list of entries, from the children at the front on
module _ {X : Type 0} (f : List Row → X) where
  past_ending : (s : List ℕ) (n : ℕ) → eqb (kind_of (row_at s 0).key) 0 ≡ true → f (rows s (suc n)) ≡ f (past_children s (suc n) (leading (rows s (suc n))))
  unfolding rows
  past_ending s n e =
      let all : suc n ≡ suc n - 0 = omega arith in
      ap (λ (m : ℕ). f (rows s m)) all ∙ sym (ap (λ (k : ℕ). f (past_children s (suc n) k)) (lead_ending (row_at s 0) (rows (drop 24 s) n) e))

  past_child : (s : List ℕ) (n : ℕ) → eqb (kind_of (row_at s 0).key) 0 ≡ false → f (past_children (drop 24 s) n (leading (rows (drop 24 s) n))) ≡ f (past_children s (suc n) (leading (rows s (suc n))))
  unfolding rows
  past_child s n e = ap f (past_on s n (leading (rows (drop 24 s) n)) ∙ sym (ap (λ (k : ℕ). past_children s (suc n) k) (lead_child (row_at s 0) (rows (drop 24 s) n) e)))

-- the nodes are those of the entries after them
after_children : (s : List ℕ) (n : ℕ) → listed_nodes (rows s n) ≡ listed_nodes (past_children s n (leading (rows s n)))
unfolding rows leading
after_children s zero = refl
after_children s (suc n) = go (eqb (kind_of (row_at s 0).key) 0) refl (after_children (drop 24 s) n)
  where
    go : (b : Bool) → eqb (kind_of (row_at s 0).key) 0 ≡ b → listed_nodes (rows (drop 24 s) n) ≡ listed_nodes (past_children (drop 24 s) n (leading (rows (drop 24 s) n)))
        → listed_nodes (rows s (suc n)) ≡ listed_nodes (past_children s (suc n) (leading (rows s (suc n))))
    go true e h = past_ending listed_nodes s n e
    go false e h = nodes_child (row_at s 0) (rows (drop 24 s) n) e ∙ h ∙ past_child listed_nodes s n e

-- an ending follows the children, or nothing does
ending_next : (s : List ℕ) (n : ℕ) → leading (past_children s n (leading (rows s n))) ≡ 0
unfolding rows leading
ending_next s zero = refl
ending_next s (suc n) = go (eqb (kind_of (row_at s 0).key) 0) refl (ending_next (drop 24 s) n)
  where
    go : (b : Bool) → eqb (kind_of (row_at s 0).key) 0 ≡ b → leading (past_children (drop 24 s) n (leading (rows (drop 24 s) n))) ≡ 0
        → leading (past_children s (suc n) (leading (rows s (suc n)))) ≡ 0
    go true e h = sym (past_ending leading s n e) ∙ lead_ending (row_at s 0) (rows (drop 24 s) n) e
    go false e h = sym (past_child leading s n e) ∙ h

-- ---- the book's nodes

pub part_all : (book : List ℕ) (used : ℕ) → part book 0 used ≡ rows book used
part_all book used = let all : used - 0 ≡ used = omega arith in ap (rows book) all

-- a place after i: the children from i on end there
module _ (book : List ℕ) (i used : ℕ) (h : i ≤ used) where
  past_part : past_children (drop (24 * i) book) (used - i) (leading (part book i used)) ≡ part book (i + leading (part book i used)) used
  past_part =
      let k = leading (part book i used) in
      let on : 24 * i + 24 * k ≡ 24 * (i + k) = omega arith in
      let less : used - i - k ≡ used - (i + k) = omega arith in
      ap₂ (λ (t : List ℕ) (m : ℕ). rows t m) (drop-drop (24 * k) (24 * i) book ∙ ap (λ (j : ℕ). drop j book) on) less

  -- it is within the entries
  pub end_le : i + leading (part book i used) ≤ used
  end_le = omega (arith, leading_le (part book i used), length_rows (drop (24 * i) book) (used - i))

  pub end_ends : leading (part book (i + leading (part book i used)) used) ≡ 0
  end_ends = sym (ap leading past_part) ∙ ending_next (drop (24 * i) book) (used - i)

  pub end_nodes : nodes_from book i used ≡ nodes_from book (i + leading (part book i used)) used
  end_nodes = after_children (drop (24 * i) book) (used - i) ∙ ap listed_nodes past_part

-- the node whose ending stands at i, and the nodes after it
pub nodes_cons : (book : List ℕ) (i used : ℕ) → i < used → leading (part book i used) ≡ 0
    → nodes_from book i used
    ≡ record { address = node_at book i; evidence = evidence_at book i (i + 1 + leading (part book (i + 1) used)) } ∷ nodes_from book (i + 1 + leading (part book (i + 1) used)) used
nodes_cons book i used l h =
    let r = row_at book (24 * i) in
    let rest = part book (i + 1) used in
    let to = i + 1 + leading rest in
    let here : part book i used ≡ r ∷ rest = part_cons book i used l in
    let ending = ends_first r rest (sym (ap leading here) ∙ h) in
    let size : leading rest ≡ to - (i + 1) = omega arith in
    let children : (spread rest).0 ≡ map child_row (part book (i + 1) to) = front_children (drop (24 * (i + 1)) book) (used - (i + 1)) ∙ ap (λ (k : ℕ). map child_row (rows (drop (24 * (i + 1)) book) k)) size in
    let node : ◌≡◌ {A = Node} (record { address = node_of r.key; evidence = record { ending = r.count; children = (spread rest).0 } }) (record { address = node_at book i; evidence = evidence_at book i to }) = λ j. record { address = node_at book i; evidence = record { ending = count_here book (24 * i) j; children = children j } } in
    ap listed_nodes here ∙ nodes_ending r rest ending ∙ ap₂ (λ (n : Node) (ns : List Node). n ∷ ns) node (end_nodes book (i + 1) used (omega arith))

-- ---- from an ending to the next

-- the ending after the one at i stands at `to`, or no node follows
pub record Next (book : List ℕ) (i to used : ℕ) : Type 0 where
  pub later : i < to
  pub within : to ≤ used
  pub ends : leading (part book to used) ≡ 0
  pub nodes_are : nodes_from book i used ≡ record { address = node_at book i; evidence = evidence_at book i to } ∷ nodes_from book to used

pub next : (book : List ℕ) (i to used : ℕ) → i < used → leading (part book i used) ≡ 0 → to ≡ i + 1 + leading (part book (i + 1) used) → Next book i to used
next book i to used l h e =
    rw e
    (record {
      later = omega arith;
      within = end_le book (i + 1) used (omega arith);
      ends = end_ends book (i + 1) used (omega arith);
      nodes_are = nodes_cons book i used l h;
    })

-- the first ending stands at i, or there is no node
pub record First (book : List ℕ) (i used : ℕ) : Type 0 where
  pub within : i ≤ used
  pub ends : leading (part book i used) ≡ 0
  pub nodes_are : nodes_from book 0 used ≡ nodes_from book i used

pub first : (book : List ℕ) (i used : ℕ) → i ≡ 0 + leading (part book 0 used) → First book i used
first book i used e = rw e (record { within = end_le book 0 used (omega arith); ends = end_ends book 0 used (omega arith); nodes_are = end_nodes book 0 used (omega arith) })

-- a list of nodes has no more than the entries
nodes_few : (rs : List Row) → length (listed_nodes rs) ≤ length rs
unfolding listed_nodes spread
nodes_few [] = omega arith
nodes_few (r ∷ rs) = go (compared (kind_of r.key) 0) (nodes_few rs)
  where
    go : Alike (kind_of r.key) 0 → length (listed_nodes rs) ≤ length rs → length (listed_nodes (r ∷ rs)) ≤ suc (length rs)
    go (alike z e) h = rw (nodes_ending r rs e) (omega arith)
    go (unlike z e) h = rw (nodes_child r rs e) (omega arith)

pub nodes_number : (book : List ℕ) (i used : ℕ) → length (nodes_from book i used) ≤ used
nodes_number book i used = omega (arith, nodes_few (part book i used), length_rows (drop (24 * i) book) (used - i))

pub nodes_none : (book : List ℕ) (i used : ℕ) → used ≤ i → nodes_from book i used ≡ []
unfolding listed_nodes spread
nodes_none book i used h = ap listed_nodes (part_none book i used h)

-- ---- a walk, node by node

module _ (G D : List Float) (nodes children : List ℕ) (layer : ℕ) where
  -- the divergence of a node
  abbrev pub divergence_of : Node → Result (Option Float) NodeReason
  divergence_of n = node_divergence G D (prior_of nodes children layer n.address) n.evidence

  -- a first node with this divergence, and the nodes after it
  pub walk_next : (n : Node) (ns left : List Node) (x : Result (Option Float) NodeReason) → left ≡ n ∷ ns → divergence_of n ≡ x → walk G D nodes children layer left ≡ visited n.address x (walk G D nodes children layer ns)
  unfolding walk
  walk_next n ns left x h e = ap (walk G D nodes children layer) h ∙ ap (λ (y : Result (Option Float) NodeReason). visited n.address y (walk G D nodes children layer ns)) e

  pub walk_end : walk G D nodes children layer [] ≡ walked [] 0
  unfolding walk
  walk_end = refl

-- the same by tables and priors that passed
pub walk_on : (m : Measure) (n : Node) (ns left : List Node) (x : Result (Option Float) NodeReason) → left ≡ n ∷ ns
    → divergence_of m.tables.g.now m.tables.d.now m.priors.nodes.now m.priors.children.now m.priors.layer n ≡ x → walk_by m left ≡ visited n.address x (walk_by m ns)
walk_on m = walk_next m.tables.g.now m.tables.d.now m.priors.nodes.now m.priors.children.now m.priors.layer

pub walk_over : (m : Measure) (left : List Node) → left ≡ [] → walk_by m left ≡ walked [] 0
walk_over m left h = ap (walk_by m) h ∙ walk_end m.tables.g.now m.tables.d.now m.priors.nodes.now m.priors.children.now m.priors.layer

-- ---- the statistics, node by node

-- the reading that the statistics so far and the walk over the nodes still to come give
abbrev pub tally_reading : KLDivergenceStats → ℕ → Walk → Reading Statistics
tally_reading s skipped (stopped n node) = refused n (Some (address_of node))
tally_reading s skipped (walked ps k) = answered (record { stats = stats_over s ps; skipped = skipped + k })

module _ (s : KLDivergenceStats) (skipped node : ℕ) where
  pub tally_noted : (x : Float) (rest : Walk) → tally_reading s skipped (visited node (Ok (Some x)) rest) ≡ tally_reading (noted s x) skipped rest
  unfolding stats_over
  tally_noted x (stopped n a) = refl
  tally_noted x (walked ps k) = refl

  pub tally_skipped : (rest : Walk) → tally_reading s skipped (visited node (Ok None) rest) ≡ tally_reading s (skipped + 1) rest
  tally_skipped (stopped n a) = refl
  tally_skipped (walked ps k) = ap (λ (m : ℕ). answered (record { stats = stats_over s ps; skipped = m })) (omega arith)

  pub tally_stopped : (reason : NodeReason) (rest : Walk) → tally_reading s skipped (visited node (Err reason) rest) ≡ refused (node_reason_number reason) (Some (address_of node))
  tally_stopped MissingChild rest = refl
  tally_stopped PastTable rest = refl

pub tally_start : (length : ℕ) (w : Walk) → tally_reading (no_stats length) 0 w ≡ stats_reading_of length w
tally_start length (stopped n a) = refl
tally_start length (walked ps k) = ap (λ (m : ℕ). answered (record { stats = stats_over (no_stats length) ps; skipped = m })) (zero-add k)

pub tally_end : (s : KLDivergenceStats) (skipped : ℕ) → tally_reading s skipped (walked [] 0) ≡ answered (record { stats = s; skipped = skipped })
unfolding stats_over
tally_end s skipped = ap (λ (m : ℕ). answered (record { stats = s; skipped = m })) (add-zero skipped)

-- the number of those that count grows by 1 at most
pub noted_le : (s : KLDivergenceStats) (x : Float) → (noted s x).nz_count ≤ s.nz_count + 1
unfolding noted counted
noted_le s x = go (lt tiny64 x)
  where
    go : (b : Bool) → (cond b (counted s x) s).nz_count ≤ s.nz_count + 1
    go true = omega arith
    go false = omega arith
