-- The evidence of one listed node: where entries have the form, its ending is found by its key, its children stand after it up to the next ending, and they ascend.
-- Assumes nothing.
use Rattle.std.proofs.Common.{◌≡◌, ℕ, zero, suc, ◌+◌, ◌-◌, ◌*◌, ◌^◌, ◌<◌, ◌≤◌, Bool, true, false, cond, ◌&&◌, ◌||◌, eqb, ltb, leb, List, [], ◌∷◌, map, length, get_or, drop, sym, refl, ap, ◌∙◌, ap₂, arith, drop-drop, ltb-true, eq-eqb, ne_eqb, eqb-true, leb-true}
use Rattle.std.specs.Prelude.{None, Some, Result, Ok, Err}
use Rattle.std.specs.Result.{result_ok}
use Rattle.priors.specs.Rows.{Row, keys, Ascends}
use Rattle.priors.specs.Search.{blank, place, holds}
use Rattle.priors.specs.Priors.{Counts}
use Rattle.priors.proofs.Orders.{Alike, alike, unlike, compared}
use Rattle.priors.proofs.ByPlace.{Spot, end, before, here, later, spot, spot_lt}
use Rattle.priors.proofs.Tests.{both}
use Rattle.priors.proofs.RowLaws.{ascends_from}
use Rattle.entries.specs.Keys.{no_child, end_key, node_of, kind_of, child_of}
use Rattle.entries.specs.Entries.{row_at, rows, find_in}
use Rattle.book.specs.Figures.{All}
use Rattle.book.specs.Form.{plain, follows, formed_after, formed}
use Rattle.book.proofs.ListingForm.{node_end, kind_end}
use Rattle.entries.proofs.EntryLaws.{length_rows, get_d_rows}
use Rattle.book.proofs.FormLaws.{formed_ascends, ending_key}
use Rattle.divergence.specs.Nodes.{child_row, spread, listed_nodes, evidence_of}
use Rattle.divergence.specs.Parts.{part, leading, node_at, evidence_at}
use Rattle.divergence.proofs.NodeLaws.{found_node}
use Rattle.divergence.proofs.WalkLaws.{nodes_ending, nodes_child, front_ending, front_child, front_children, end_le}

-- ---- what the form says of one entry

abbrev Plain : List Row → Type 0
Plain = All (λ (r : Row). plain r ≡ true)

plain_after : (k : ℕ) (rs : List Row) → formed_after k rs ≡ true → Plain rs
unfolding formed_after
plain_after k [] h = tt
plain_after k (r ∷ rs) h =
    let p = both (plain r) (follows k r && formed_after r.key rs) h in
    (p.0, plain_after r.key rs (both (follows k r) (formed_after r.key rs) p.1).1)

formed_plain : (rs : List Row) → formed rs ≡ true → Plain rs
unfolding formed
formed_plain [] h = tt
formed_plain (r ∷ rs) h =
    let p = both (plain r) (eqb (kind_of r.key) 0 && formed_after r.key rs) h in
    (p.0, plain_after r.key rs (both (eqb (kind_of r.key) 0) (formed_after r.key rs) p.1).1)

-- entries after the one at the place i
formed_on : (k : ℕ) (rs : List Row) (i : ℕ) → formed_after k rs ≡ true → i < length rs → formed_after (get_or rs i blank).key (drop (suc i) rs) ≡ true
unfolding formed_after
formed_on k [] i h l = absurd (omega arith)
formed_on k (r ∷ rs) i h l = go i l (both (follows k r) (formed_after r.key rs) (both (plain r) (follows k r && formed_after r.key rs) h).1).1 (formed_on r.key rs)
  where
    go : (i : ℕ) → i < suc (length rs) → formed_after r.key rs ≡ true → ((j : ℕ) → formed_after r.key rs ≡ true → j < length rs → formed_after (get_or rs j blank).key (drop (suc j) rs) ≡ true)
        → formed_after (get_or (r ∷ rs) i blank).key (drop (suc i) (r ∷ rs)) ≡ true
    go zero l f on = f
    go (suc j) l f on = on j f (omega arith)

formed_at : (rs : List Row) (i : ℕ) → formed rs ≡ true → i < length rs → formed_after (get_or rs i blank).key (drop (suc i) rs) ≡ true
unfolding formed
formed_at [] i h l = absurd (omega arith)
formed_at (r ∷ rs) i h l = go i l (both (eqb (kind_of r.key) 0) (formed_after r.key rs) (both (plain r) (eqb (kind_of r.key) 0 && formed_after r.key rs) h).1).1
  where
    go : (i : ℕ) → i < suc (length rs) → formed_after r.key rs ≡ true → formed_after (get_or (r ∷ rs) i blank).key (drop (suc i) (r ∷ rs)) ≡ true
    go zero l f = f
    go (suc j) l f = formed_on r.key rs j f (omega arith)

-- ---- a node among nodes

module _ (a : ℕ) where
  other_node : (r : Row) → plain r ≡ true → kind_of r.key ≡ 0 → (r.key ≡ end_key a → ⊥) → eqb (node_of r.key) a ≡ false
  other_node r p z differs = ne_eqb (node_of r.key) a (λ e. differs (ending_key r p z ∙ ap end_key e))

  -- a row with another key is passed over
  passed : (r : Row) (rs : List Row) → plain r ≡ true → (r.key ≡ end_key a → ⊥) → evidence_of a (listed_nodes (r ∷ rs)) ≡ evidence_of a (listed_nodes rs)
  unfolding evidence_of
  passed r rs p differs = go (compared (kind_of r.key) 0)
    where
      go : Alike (kind_of r.key) 0 → evidence_of a (listed_nodes (r ∷ rs)) ≡ evidence_of a (listed_nodes rs)
      go (alike z e) = rw (nodes_ending r rs e, other_node r p z differs)
      go (unlike z e) = rw (nodes_child r rs e)

  absent : (rs : List Row) → Plain rs → Ascends (suc (end_key a)) (keys rs) → evidence_of a (listed_nodes rs) ≡ None
  unfolding listed_nodes spread evidence_of
  absent [] p h = refl
  absent (r ∷ rs) p h = passed r rs p.0 (λ e. omega arith) ∙ absent rs p.1 (ascends_from (suc (end_key a)) (suc r.key) (keys rs) (omega arith) h.1)

  abbrev evidence_here : List Row → ℕ → Counts
  evidence_here rs i = record { ending = (get_or rs i blank).count; children = (spread (drop (suc i) rs)).0 }

  listed : {rs : List Row} {i : ℕ} {b : Bool} → Plain rs → Ascends 0 (keys rs) → Spot (end_key a) rs i b → evidence_of a (listed_nodes rs) ≡ cond b (Some (evidence_here rs i)) None
  unfolding listed_nodes spread evidence_of
  listed p h end = refl
  listed p h (before {r} {rs} l) = absent (r ∷ rs) p (l, h.1)
  listed p h (here {r} {rs} q) = rw (nodes_ending r rs (eq-eqb (kind_of r.key) 0 (ap kind_of (sym q) ∙ kind_end a)), eq-eqb (node_of r.key) a (ap node_of (sym q) ∙ node_end a))
  listed p h (later {r} {rs} l s) = passed r rs p.0 (λ e. omega arith) ∙ listed p.1 (ascends_from 0 (suc r.key) (keys rs) (omega arith) h.1) s

  module _ (rs : List Row) (form : formed rs ≡ true) where
    pub found_missing : (i : ℕ) → Err i ≡ find_in rs (end_key a) → evidence_of a (listed_nodes rs) ≡ None
    unfolding find_in
    found_missing i e = go (holds rs (place rs (end_key a)) (end_key a)) (spot (end_key a) rs) e
      where
        go : (b : Bool) → Spot (end_key a) rs (place rs (end_key a)) b → Err i ≡ cond b (Ok (place rs (end_key a))) (Err (place rs (end_key a))) → evidence_of a (listed_nodes rs) ≡ None
        go true s e = let z : ◌≡◌ {A = ℕ} 0 1 = cc in absurd (omega arith)
        go false s e = listed (formed_plain rs form) (formed_ascends rs form) s

    pub found_listed : (i : ℕ) → Ok i ≡ find_in rs (end_key a) → (i < length rs) × (evidence_of a (listed_nodes rs) ≡ Some (evidence_here rs i))
    unfolding find_in
    found_listed i e = go (holds rs (place rs (end_key a)) (end_key a)) (spot (end_key a) rs) e
      where
        go : (b : Bool) → Spot (end_key a) rs (place rs (end_key a)) b → Ok i ≡ cond b (Ok (place rs (end_key a))) (Err (place rs (end_key a)))
            → (i < length rs) × (evidence_of a (listed_nodes rs) ≡ Some (evidence_here rs i))
        go true s e =
            let is : place rs (end_key a) ≡ i = cc in
            (rw is at (spot_lt s), listed (formed_plain rs form) (formed_ascends rs form) s ∙ ap (λ (j : ℕ). Some (evidence_here rs j)) is)
        go false s e = let z : ◌≡◌ {A = ℕ} 0 1 = cc in absurd (omega arith)

-- ---- a node's children

-- two children of a node ascend by their addresses
child_order : (k j : ℕ) → k < j → node_of k ≡ node_of j → kind_of k ≡ kind_of j → child_of k < child_of j
unfolding node_of kind_of child_of
child_order k j l n z = omega arith

-- a bound on the children of the node of k that come after k
abbrev Bounds : ℕ → ℕ → Type 0
Bounds k a = (j : ℕ) → k < j → node_of k ≡ node_of j → kind_of j ≡ 1 → a ≤ child_of j

or_false : (x : Bool) → x || false ≡ true → x ≡ true
or_false true h = refl
or_false false h = h

-- what the form says of a child after an entry with the key k
child_follows : (k : ℕ) (r : Row) → plain r ≡ true → follows k r ≡ true → (kind_of r.key ≡ 0 → ⊥) → (k < r.key) × (node_of k ≡ node_of r.key) × (kind_of r.key ≡ 1)
unfolding plain follows
child_follows k r p f z =
    let o = both (ltb k r.key) (eqb (node_of k) (node_of r.key) || eqb (kind_of r.key) 0) f in
    let small : kind_of r.key ≤ 1 = leb-true (kind_of r.key) 1 (both (leb (kind_of r.key) 1) (leb r.count (2 ^ 30) && (eqb (kind_of r.key) 1 || eqb (child_of r.key) no_child)) p).0 in
    (ltb-true k r.key o.0, eqb-true (node_of k) (node_of r.key) (or_false (eqb (node_of k) (node_of r.key)) (rw (ne_eqb (kind_of r.key) 0 z) at o.1)), omega_one (kind_of r.key) small z)
  where
    omega_one : (n : ℕ) → n ≤ 1 → (n ≡ 0 → ⊥) → n ≡ 1
    omega_one zero l d = absurd (d refl)
    omega_one (suc n) l d = omega arith

ascend_after : (k a : ℕ) (rs : List Row) → formed_after k rs ≡ true → Bounds k a → Ascends a (keys (spread rs).0)
unfolding formed_after spread
ascend_after k a [] h b = tt
ascend_after k a (r ∷ rs) h b = go (both (plain r) (follows k r && formed_after r.key rs) h) (compared (kind_of r.key) 0) (ascend_after r.key (suc (child_of r.key)) rs)
  where
    go : (plain r ≡ true) × (follows k r && formed_after r.key rs ≡ true) → Alike (kind_of r.key) 0
        → (formed_after r.key rs ≡ true → Bounds r.key (suc (child_of r.key)) → Ascends (suc (child_of r.key)) (keys (spread rs).0)) → Ascends a (keys (spread (r ∷ rs)).0)
    go p (alike z e) ih = rw (front_ending r rs e) tt
    go p (unlike z e) ih =
        let f = both (follows k r) (formed_after r.key rs) p.1 in
        let on = child_follows k r p.0 f.0 z in
        rw (front_child r rs e) (b r.key on.0 on.1 on.2, ih f.1 (λ j l n o. child_order r.key j l n (on.2 ∙ sym o)))

-- ---- the entries of a book

rows_drop : (s : List ℕ) (n i : ℕ) → i ≤ n → drop i (rows s n) ≡ rows (drop (24 * i) s) (n - i)
unfolding rows
rows_drop s n zero h = let e : n ≡ n - 0 = omega arith in ap (rows s) e
rows_drop s zero (suc i) h = absurd (omega arith)
rows_drop s (suc n) (suc i) h =
    let at : 24 + 24 * i ≡ 24 * suc i = omega arith in
    let left : n - i ≡ suc n - suc i = omega arith in
    rows_drop (drop 24 s) n i (omega arith) ∙ ap₂ rows (drop-drop (24 * i) 24 s ∙ ap (λ (k : ℕ). drop k s) at) left

-- where the children of the ending at the place i end
abbrev pub last : List ℕ → ℕ → ℕ → ℕ
last book used i = i + 1 + leading (part book (i + 1) used)

module _ (book : List ℕ) (used : ℕ) (form : formed (rows book used) ≡ true) (i : ℕ) (in_use : i < used) where
  after : drop (suc i) (rows book used) ≡ part book (i + 1) used
  after = let one : suc i ≡ i + 1 = omega arith in rw one (rows_drop book used (i + 1) (omega (arith, in_use)))

  pub listed_end : (i < last book used i) × (last book used i ≤ used)
  listed_end = (omega arith, end_le book (i + 1) used (omega (arith, in_use)))

  children_are : (spread (drop (suc i) (rows book used))).0 ≡ map child_row (part book (i + 1) (last book used i))
  children_are =
      let count : leading (part book (i + 1) used) ≡ last book used i - (i + 1) = omega arith in
      ap (λ (l : List Row). (spread l).0) after
      ∙ front_children (drop (24 * (i + 1)) book) (used - (i + 1))
      ∙ ap (λ (k : ℕ). map child_row (rows (drop (24 * (i + 1)) book) k)) count

  -- of an entry of a book that has the form: the children after it ascend
  pub listed_ascend : Ascends 0 (keys (map child_row (part book (i + 1) (last book used i))))
  listed_ascend = rw children_are at (ascend_after (get_or (rows book used) i blank).key 0 (drop (suc i) (rows book used)) (formed_at (rows book used) i form (omega (arith, in_use, length_rows book used))) (λ j l n z. omega arith))

  -- of the ending of the address a
  pub listed_is : (a : ℕ) → Ok i ≡ find_in (rows book used) (end_key a) → evidence_of a (listed_nodes (rows book used)) ≡ Some (evidence_at book i (last book used i))
  unfolding row_at
  listed_is a is =
      let ending : (get_or (rows book used) i blank).count ≡ (evidence_at book i (last book used i)).ending = ap (λ (r : Row). r.count) (get_d_rows book used i blank in_use) in
      (found_listed a (rows book used) form i is).1 ∙ (λ j. Some (record { ending = ending j; children = children_are j }))

-- ---- a look-up as an option

from_some : (r : Result ℕ ℕ) (i : ℕ) → result_ok r ≡ Some i → Ok i ≡ r
from_some (Ok j) i h = cc
from_some (Err j) i h = let z : ◌≡◌ {A = ℕ} 0 1 = cc in absurd (omega arith)

from_none : (r : Result ℕ ℕ) → result_ok r ≡ None → (i : ℕ) × (Err i ≡ r)
from_none (Ok j) h = let z : ◌≡◌ {A = ℕ} 0 1 = cc in absurd (omega arith)
from_none (Err j) h = (j, refl)

-- an ending that is found, and the place to which its node's children go
pub record FoundEnding (book : List ℕ) (used a i to : ℕ) : Type 0 where
  pub later : i < to
  pub within : to ≤ used
  pub node_is : node_at book i ≡ a
  pub evidence_is : evidence_of a (listed_nodes (rows book used)) ≡ Some (evidence_at book i to)
  pub ascend : Ascends 0 (keys (map child_row (part book (i + 1) to)))

module _ (book : List ℕ) (used : ℕ) (form : formed (rows book used) ≡ true) (a : ℕ) (r : Result ℕ ℕ) (is : r ≡ find_in (rows book used) (end_key a)) where
  module _ (i : ℕ) (h : result_ok r ≡ Some i) where
    at : Ok i ≡ find_in (rows book used) (end_key a)
    at = from_some r i h ∙ is

    pub ending_in_use : i < used
    ending_in_use = omega (arith, length_rows book used, (found_listed a (rows book used) form i at).0)

    pub ending_found : (to : ℕ) → to ≡ last book used i → FoundEnding book used a i to
    ending_found to e =
        let end = listed_end book used form i ending_in_use in
        rw e
        (record {
          later = end.0;
          within = end.1;
          node_is = found_node book used a i ending_in_use at;
          evidence_is = listed_is book used form i ending_in_use a at;
          ascend = listed_ascend book used form i ending_in_use;
        })

  pub ending_missing : result_ok r ≡ None → evidence_of a (listed_nodes (rows book used)) ≡ None
  ending_missing h = let none = from_none r h in found_missing a (rows book used) form none.0 (none.1 ∙ is)
