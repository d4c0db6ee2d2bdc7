-- Evidence that ascends is added to a prior in one pass: whichever of the two first rows has the lower key comes first, and two with the same key come as one.
-- Then the same for a chain and the entries of a book, place by place. Assumes nothing.
use Rattle.std.proofs.Common.{◌≡◌, Bool, true, false, cond, ltb, eqb, ltb-true, ltb-false, eqb-true, ℕ, suc, ◌+◌, ◌-◌, ◌*◌, ◌^◌, ◌<◌, ◌≤◌, List, [], ◌∷◌, map, length, drop, sym, refl, ap, ◌∙◌, arith}
use Rattle.std.specs.Prelude.{⊤, Option, None, Some}
use Rattle.std.proofs.lemmas.Bool.{eqb-false}
use Rattle.std.specs.Ordering.{nat_cmp, MatchOrdering}
use Rattle.std.specs.declared.cmp.Ordering.{Ordering}
use Rattle.std.specs.declared.cmp.Ordering.TheVariants.{Less, Equal, Greater}
use lib.ListN.{length-map}
use Rattle.priors.specs.declared.records.Record.{Record}
use Rattle.priors.specs.Rows.{Row, row, keys, Ascends, look, change}
use Rattle.priors.specs.Priors.{record_at, record_count, chain_of, children_of, every_child, next_link_fits}
use Rattle.priors.proofs.ChainLaws.{next_small, rows_end, rows_step}
use Rattle.priors.proofs.Orders.{compare_lt, compare_gt, compare_self}
use Rattle.priors.proofs.RowLaws.{ascends_from, gained, length_change}
use Rattle.entries.specs.Entries.{row_at}
use Rattle.entries.proofs.EntryLaws.{length_rows}
use Rattle.divergence.specs.declared.evidence.Child.{Child}
use Rattle.std.specs.Iterator.{MakesProgress, item_count}
use Rattle.divergence.specs.declared.probabilities.Merge.{Merge}
use Rattle.divergence.specs.declared.probabilities.Merged.{Merged}
use Rattle.divergence.specs.Merging.{children_left, merged_row}
use Rattle.divergence.specs.Nodes.{child_row}
use Rattle.divergence.specs.Parts.{part}
use Rattle.divergence.specs.Probability.{with_evidence}
use Rattle.divergence.specs.Merge.{child_entries, merged_from}
use Rattle.divergence.proofs.NodeLaws.{part_none, part_cons}

-- ---- how two ranks compare

ordered : (a b : ℕ) → MatchOrdering (nat_cmp a b) (a < b) (a ≡ b) (b < a)
ordered a b = go (ltb a b) (eqb a b) refl refl
  where
    go : (x y : Bool) → ltb a b ≡ x → eqb a b ≡ y → MatchOrdering (cond x Less (cond y Equal Greater)) (a < b) (a ≡ b) (b < a)
    go true y p q = ltb-true a b p
    go false true p q = eqb-true a b q
    go false false p q =
        let apart : a ≡ b → ⊥ = eqb-false a b q in
        omega (arith, ltb-false a b p, apart)

pub compared_as : (a b : ℕ) (o : Ordering) → o ≡ nat_cmp a b → MatchOrdering o (a < b) (a ≡ b) (b < a)
compared_as a b o h = rw h (ordered a b)

-- ---- rows

-- a row below all evidence stays in front
pub row_below : (es : List Row) (p : Row) (ps : List Row) → Ascends (suc p.key) (keys es) → with_evidence es (p ∷ ps) ≡ p ∷ with_evidence es ps
unfolding with_evidence change
row_below [] p ps h = refl
row_below (e ∷ es) p ps h =
    rw (compare_gt e.key p.key (omega arith))
    (row_below es p (change (Some e.count) (λ c. c + e.count) e.key ps) (ascends_from (suc p.key) (suc e.key) (keys es) (omega arith) h.1))

module _ (e : Row) (es : List Row) (ascend : Ascends (suc e.key) (keys es)) where
  -- the prior is at its end
  pub evidence_last : with_evidence (e ∷ es) [] ≡ e ∷ with_evidence es []
  unfolding with_evidence change
  evidence_last = row_below es e [] ascend

  module _ (p : Row) (ps : List Row) where
    pub prior_first : p.key < e.key → with_evidence (e ∷ es) (p ∷ ps) ≡ p ∷ with_evidence (e ∷ es) ps
    prior_first l = row_below (e ∷ es) p ps (l, ascend)

    pub evidence_first : e.key < p.key → with_evidence (e ∷ es) (p ∷ ps) ≡ e ∷ with_evidence es (p ∷ ps)
    unfolding with_evidence change
    evidence_first l = rw (compare_lt e.key p.key l) (row_below es e (p ∷ ps) ascend)

    pub both_first : e.key ≡ p.key → with_evidence (e ∷ es) (p ∷ ps) ≡ row p.key (p.count + e.count) ∷ with_evidence es ps
    unfolding with_evidence change
    both_first q = rw (q, compare_self p.key) (row_below es (row p.key (p.count + e.count)) ps (rw q at ascend))

-- evidence added to nothing is the evidence
pub evidence_alone : (a : ℕ) (es : List Row) → Ascends a (keys es) → with_evidence es [] ≡ es
unfolding with_evidence
evidence_alone a [] h = refl
evidence_alone a (e ∷ es) h = evidence_last e es h.1 ∙ ap (λ (l : List Row). e ∷ l) (evidence_alone (suc e.key) es h.1)

gains_one : (o : Option ℕ) (c : ℕ) → gained o (Some c) ≤ 1
gains_one None c = omega arith
gains_one (Some d) c = omega arith

-- no more children than both list
pub merged_length : (es ps : List Row) → length (with_evidence es ps) ≤ length es + length ps
unfolding with_evidence
merged_length [] ps = omega arith
merged_length (e ∷ es) ps =
    omega (arith, merged_length es (change (Some e.count) (λ c. c + e.count) e.key ps), length_change (Some e.count) (λ c. c + e.count) e.key ps, gains_one (look e.key ps) e.count)

-- ---- the entries of a book

module _ (book : List ℕ) (at end : ℕ) where
  pub entries_length : length (child_entries book at end) ≡ end - at
  entries_length = length-map (part book at end) child_row ∙ length_rows (drop (24 * at) book) (end - at)

  pub entries_end : end ≤ at → child_entries book at end ≡ []
  entries_end h = ap (map child_row) (part_none book at end h)

  pub entries_step : at < end → child_entries book at end ≡ child_row (row_at book (24 * at)) ∷ child_entries book (at + 1) end
  entries_step h = ap (map child_row) (part_cons book at end h)

-- ---- the merge of a chain and entries

-- links rise and lead to records, and the entries ascend
pub record Mergeable (children : List ℕ) (link : ℕ) (book : List ℕ) (at end : ℕ) : Type 0 where
  pub links_rise : every_child children (next_link_fits children) ≡ true
  pub link_fits : link ≤ record_count children
  pub place_fits : at ≤ end
  pub children_ascend : Ascends 0 (keys (child_entries book at end))

pub merge_ready : (m : Merge) → Mergeable m.children.now m.link m.entries.bytes.now m.at m.entries.used
merge_ready m = record { links_rise = m.links_rise; link_fits = m.link_fits; place_fits = m.place_fits; children_ascend = m.children_ascend }

-- the same as the merge holds it
pub held : {children : List ℕ} {link : ℕ} {book : List ℕ} {at end : ℕ} → Mergeable children link book at end
    → record {
      links_rise : every_child children (next_link_fits children) ≡ true;
      link_fits : link ≤ record_count children;
      place_fits : at ≤ end;
      children_ascend : Ascends 0 (keys (child_entries book at end));
    }
held ready = record { links_rise = ready.links_rise; link_fits = ready.link_fits; place_fits = ready.place_fits; children_ascend = ready.children_ascend }

-- the first child of a merge and where it goes on
pub record FirstMerged (children : List ℕ) (link : ℕ) (book : List ℕ) (at end : ℕ) (rank count link' at' : ℕ) : Type 0 where
  pub first_is : merged_from children link book at end ≡ row rank count ∷ merged_from children link' book at' end
  pub goes_on : Mergeable children link' book at' end

-- the same with the count by another name
pub first_as : {children : List ℕ} {link : ℕ} {book : List ℕ} {at end rank count link' at' : ℕ} → FirstMerged children link book at end rank count link' at' → (n : ℕ) → n ≡ count
    → merged_from children link book at end ≡ row rank n ∷ merged_from children link' book at' end
first_as first n is = rw is first.first_is

module _ (children : List ℕ) (link : ℕ) (book : List ℕ) (at end : ℕ) (ready : Mergeable children link book at end) where
  -- the entry at hand, and what is asked of those after it
  module _ (left : at < end) (child : Child) (is : row child.rank child.count ≡ child_row (row_at book (24 * at))) where
    entries_are : child_entries book at end ≡ row child.rank child.count ∷ child_entries book (at + 1) end
    entries_are = entries_step book at end left ∙ ap (λ (r : Row). r ∷ child_entries book (at + 1) end) (sym is)

    ascend_after : Ascends (suc child.rank) (keys (child_entries book (at + 1) end))
    ascend_after = (rw entries_are at ready.children_ascend).1

    after_entry : (on : ℕ) → on ≤ record_count children → Mergeable children on book (at + 1) end
    after_entry on fits = record {
      links_rise = ready.links_rise;
      link_fits = fits;
      place_fits = omega arith;
      children_ascend = ascends_from 0 (suc child.rank) (keys (child_entries book (at + 1) end)) (omega arith) ascend_after;
    }

  -- the chain's first record, and what is asked of the chain after it
  module _ (more : 0 < link) (prior : Record) (is : prior ≡ record_at children (link - 1)) where
    chain_is : children_of children link ≡ row prior.rank prior.count ∷ children_of children prior.link
    chain_is = rw is (rows_step children ready.links_rise link more ready.link_fits)

    next_fits : prior.link ≤ record_count children
    next_fits = rw is (next_small children ready.links_rise (link - 1) (omega (arith, ready.link_fits)))

    after_record : Mergeable children prior.link book at end
    after_record = record {
      links_rise = ready.links_rise;
      link_fits = next_fits;
      place_fits = ready.place_fits;
      children_ascend = ready.children_ascend;
    }

  no_chain : link ≡ 0 → children_of children link ≡ []
  no_chain gone = ap (children_of children) gone ∙ rows_end children ready.links_rise

  pub only_entry : link ≡ 0 → at < end → (child : Child) → row child.rank child.count ≡ child_row (row_at book (24 * at)) → FirstMerged children link book at end child.rank child.count link (at + 1)
  unfolding merged_from
  only_entry gone left child is = record {
    first_is = rw (no_chain gone, entries_are left child is) (evidence_last (row child.rank child.count) (child_entries book (at + 1) end) (ascend_after left child is));
    goes_on = after_entry left child is link ready.link_fits;
  }

  pub only_record : 0 < link → end ≤ at → (prior : Record) → prior ≡ record_at children (link - 1) → FirstMerged children link book at end prior.rank prior.count prior.link at
  unfolding merged_from with_evidence
  only_record more gone prior is = record {
    first_is = rw (entries_end book at end gone, chain_is more prior is);
    goes_on = after_record more prior is;
  }

  module _ (more : 0 < link) (prior : Record) (prior-is : prior ≡ record_at children (link - 1)) (left : at < end) (child : Child) (child-is : row child.rank child.count ≡ child_row (row_at book (24 * at))) where
    pub record_lower : prior.rank < child.rank → FirstMerged children link book at end prior.rank prior.count prior.link at
    unfolding merged_from
    record_lower l = record {
      first_is = rw (entries_are left child child-is, chain_is more prior prior-is) (prior_first (row child.rank child.count) (child_entries book (at + 1) end) (ascend_after left child child-is) (row prior.rank prior.count) (children_of children prior.link) l);
      goes_on = after_record more prior prior-is;
    }

    pub entry_lower : child.rank < prior.rank → FirstMerged children link book at end child.rank child.count link (at + 1)
    unfolding merged_from
    entry_lower l = record {
      first_is = rw (entries_are left child child-is, chain_is more prior prior-is) (evidence_first (row child.rank child.count) (child_entries book (at + 1) end) (ascend_after left child child-is) (row prior.rank prior.count) (children_of children prior.link) l);
      goes_on = after_entry left child child-is link ready.link_fits;
    }

    pub same_child : child.rank ≡ prior.rank → FirstMerged children link book at end child.rank (prior.count + child.count) prior.link (at + 1)
    unfolding merged_from
    same_child q = record {
      first_is = rw (entries_are left child child-is, chain_is more prior prior-is)
          (both_first (row child.rank child.count) (child_entries book (at + 1) end) (ascend_after left child child-is) (row prior.rank prior.count) (children_of children prior.link) q
          ∙ ap (λ (k : ℕ). row k (prior.count + child.count) ∷ with_evidence (child_entries book (at + 1) end) (children_of children prior.link)) (sym q));
      goes_on = after_entry left child child-is prior.link (next_fits more prior prior-is);
    }

  -- both are at their ends
  pub merged_end : link ≡ 0 → end ≤ at → merged_from children link book at end ≡ []
  unfolding merged_from with_evidence
  merged_end gone over = rw (no_chain gone, entries_end book at end over)

-- no more children than the chain and the entries have
pub merged_few : (children : List ℕ) (link : ℕ) (book : List ℕ) (at end : ℕ) → length (merged_from children link book at end) ≤ (end - at) + length (chain_of children link)
unfolding merged_from
merged_few children link book at end =
    omega (arith, merged_length (child_entries book at end) (children_of children link), entries_length book at end, length-map (chain_of children link) (λ (r : Record). row r.rank r.count))

-- a step gives a child and brings the merge nearer to its end
pub given : (s t : Merge) (m : Merged) → children_left s ≡ merged_row m ∷ children_left t → m.count < 2 ^ 33
    → record { steps : (children_left s ≡ merged_row m ∷ children_left t) × (m.count < 2 ^ 33); goes : MakesProgress {S = Merge} {A = Merged} (λ w. ⊤) (item_count children_left) s (Some m) t }
given s t m is small = record { steps = (is, small); goes = record { on = λ f. (tt, tt, omega (arith, ap (λ (rs : List Row). length rs) is)); keeps = tt; rests = λ f. tt } }
