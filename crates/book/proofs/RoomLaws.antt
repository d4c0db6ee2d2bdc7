-- The dry run for 12: the keys that a path lists are looked at in turn, and each that has no row and stands for the first time brings one. Assumes nothing.
use mir.Val.{bool_byte}
use mathlib.Core.Path.{◌≡◌, refl, sym, ap, ap₂, ◌∙◌}
use Prim.Native.Nat.{ℕ, zero, suc, ◌+◌, ◌-◌, ◌*◌, ◌/◌, ◌%◌, ◌^◌, ◌≤◌, ◌<◌}
use native.Mathlib.Numerals.{add-one}
use native.Mathlib.Omega.{arith}
use mathlib.Core.List.{List, [], ◌∷◌}
use Rattle.std.specs.Prelude.{Option, None, Some, Ok, Err}
use mathlib.Core.Bool.{Bool, true, false, not, cond, ◌&&◌, ◌||◌}
use lib.Dec.{eqb}
use lib.ListN.{length, get_or, take}
use lib.Seq.{take-suc, take_all}
use Rattle.std.specs.List.{list_any, range_with_len}
use native.Mathlib.Nat.{zero-add}
use borrow.Author.Tests.{ne_eqb}
use Rattle.priors.specs.Rows.{Row, look, touch}
use Rattle.priors.specs.Search.{blank, place, holds}
use Rattle.priors.proofs.RowLaws.{look_other, length_touch, gained}
use Rattle.priors.proofs.ByPlace.{look_place}
use Rattle.entries.specs.Keys.{end_key, child_key, kind_of}
use Rattle.book.specs.Path.{Steps, listed_keys}
use Rattle.entries.specs.Entries.{rows, find_in}
use Rattle.book.specs.Figures.{Listed, Ranks}
use Rattle.book.specs.Changes.{change_all, touch_all, EndingsListed}
use Rattle.book.specs.Recount.{occurrences}
use Rattle.book.specs.Room.{brings}
use Rattle.book.proofs.Passes.{first}
use Rattle.book.proofs.Occurrences.{hit, occ_nil, occ_cons, occ_append}
use Rattle.book.proofs.ListingForm.{kind_end, kind_child, end_below_child}
use Rattle.book.proofs.DryRun.{change_all-snoc, gained_next, length_next}
use Rattle.book.proofs.EndingLaws.{ending_listed, pairs_keep}
use Rattle.entries.proofs.EntryLaws.{length_rows}
use Rattle.book.proofs.StepLaws.{ranks_at, length_listed, listed_ending, listed_child, listed_even, listed_odd}

-- ---- a key among those before it

-- an ending is no child
apart : (a b c : ℕ) → c < 2 ^ 64 → end_key a ≡ child_key b c → ⊥
apart a b c h q = let z : ◌≡◌ {A = ℕ} 0 1 = sym (kind_end a) ∙ ap kind_of q ∙ kind_child b c h in omega arith

module _ (p : Steps) (ranks : Ranks p) (j : ℕ) (in_list : j + 1 < 2 * length p) where
  abbrev listed : List ℕ
  listed = listed_keys p

  abbrev key : ℕ
  key = get_or listed j 0

  -- of two keys with an even and an odd number one is an ending and one a child
  differ : (i : ℕ) → i < j → (i % 2 ≡ j % 2 → ⊥) → key ≡ get_or listed i 0 → ⊥
  differ i h d q = go (j % 2) refl
    where
      go : (r : ℕ) → j % 2 ≡ r → ⊥
      go zero e =
          apart (get_or p (j / 2) 0) (get_or p (i / 2) 0) (get_or p (i / 2 + 1) 0) (ranks_at p (i / 2 + 1) (omega arith) ranks)
          (sym (listed_even p j e in_list) ∙ q ∙ listed_odd p i (λ z. d (z ∙ sym e)) (omega arith))
      go (suc r) e =
          let even : i % 2 ≡ 0 = go_even (i % 2) refl in
          apart (get_or p (i / 2) 0) (get_or p (j / 2) 0) (get_or p (j / 2 + 1) 0) (ranks_at p (j / 2 + 1) (omega arith) ranks)
          (sym (listed_even p i even (omega arith)) ∙ sym q ∙ listed_odd p j (λ z. absurd (omega (arith, z, e))) in_list)
        where
          go_even : (t : ℕ) → i % 2 ≡ t → i % 2 ≡ 0
          go_even zero f = f
          go_even (suc t) f = absurd (d (omega (arith, e, f)))

  unhit : (i : ℕ) → i < j → (i % 2 ≡ j % 2 → ⊥) → hit key (get_or listed i 0) ≡ 0
  unhit i h d = rw (ne_eqb key (get_or listed i 0) (differ i h d))

  -- looked for among the n keys numbered j - 2 (a + 1), j - 2 (a + 2), ..
  seen_from : (a n : ℕ) → a + n ≡ j / 2 → list_any (λ m. eqb key (get_or listed (j - 2 * (m + 1)) 0)) (range_with_len a n) ≡ not (eqb (occurrences key (take (j - 2 * a) listed)) 0)
  seen_from a zero h = rw (go (j - 2 * a) refl)
    where
      go : (r : ℕ) → j - 2 * a ≡ r → occurrences key (take r listed) ≡ 0
      go zero e = occ_nil key
      go (suc zero) e = ap (occurrences key) (take-suc listed 0 0 (omega (arith, length_listed p (omega arith)))) ∙ omega (arith, occ_nil key, occ_cons key (get_or listed 0 0) [], unhit 0 (omega arith) (λ z. omega arith))
      go (suc (suc r)) e = absurd (omega arith)
  seen_from a (suc n) h =
      let u : ℕ = j - 2 * (a + 1) in
      let at : j - 2 * a ≡ suc (suc u) = omega arith in
      let len : length listed + 1 ≡ 2 * length p = length_listed p (omega arith) in
      let one : occurrences key (take (suc u) listed) ≡ occurrences key (take u listed) + occurrences key (get_or listed u 0 ∷ []) =
      ap (occurrences key) (take-suc listed u 0 (omega arith)) ∙ occ_append key (take u listed) (get_or listed u 0 ∷ []) in
      let two : occurrences key (take (suc (suc u)) listed) ≡ occurrences key (take (suc u) listed) + occurrences key (get_or listed (suc u) 0 ∷ []) =
      ap (occurrences key) (take-suc listed (suc u) 0 (omega arith)) ∙ occ_append key (take (suc u) listed) (get_or listed (suc u) 0 ∷ []) in
      let both : occurrences key (take (j - 2 * a) listed) ≡ hit key (get_or listed u 0) + occurrences key (take u listed) =
      ap (λ (t : ℕ). occurrences key (take t listed)) at ∙ omega (arith, one, two, occ_nil key, occ_cons key (get_or listed u 0) [], occ_cons key (get_or listed (suc u) 0) [], unhit (suc u) (omega arith) (λ z. omega arith)) in
      rw (seen_from (a + 1) n (omega arith), both) (go (eqb key (get_or listed u 0)) (occurrences key (take u listed)))
    where
      go : (b : Bool) (n : ℕ) → b || not (eqb n 0) ≡ not (eqb (cond b 1 0 + n) 0)
      go true n = rw (ne_eqb (1 + n) 0 (λ z. omega arith))
      go false n = rw zero-add

  pub seen_before : (k : ℕ) → k ≡ get_or listed j 0 → list_any (λ m. eqb k (get_or listed (j - 2 * (m + 1)) 0)) (range_with_len 0 (j / 2)) ≡ not (eqb (occurrences k (take j listed)) 0)
  seen_before k is =
      let all : j - 2 * 0 ≡ j = omega arith in
      rw is (seen_from 0 (j / 2) (omega arith) ∙ ap (λ (t : ℕ). not (eqb (occurrences key (take t listed)) 0)) all)

-- ---- a key that brings a row

pub found_holds : (rs : List Row) (k i : ℕ) → find_in rs k ≡ Ok i → holds rs (place rs k) k ≡ true
unfolding find_in
found_holds rs k i f = go (holds rs (place rs k) k) f
  where
    go : (b : Bool) → cond b (Ok (place rs k)) (Err (place rs k)) ≡ Ok i → b ≡ true
    go true f = refl
    go false f = let z : ◌≡◌ {A = ℕ} 0 1 = cc in absurd (omega arith)

pub missing_holds : (rs : List Row) (k i : ℕ) → find_in rs k ≡ Err i → holds rs (place rs k) k ≡ false
unfolding find_in
missing_holds rs k i f = go (holds rs (place rs k) k) f
  where
    go : (b : Bool) → cond b (Ok (place rs k)) (Err (place rs k)) ≡ Err i → b ≡ false
    go true f = let z : ◌≡◌ {A = ℕ} 0 1 = cc in absurd (omega arith)
    go false f = refl

module _ (rs : List Row) (ks : List ℕ) (j i : ℕ) where
  pub found_brings : find_in rs (get_or ks j 0) ≡ Ok i → 0 ≡ brings rs ks j
  found_brings e = rw (found_holds rs (get_or ks j 0) i e)

  pub missing_brings : find_in rs (get_or ks j 0) ≡ Err i → (t : Bool) → t ≡ not (eqb (occurrences (get_or ks j 0) (take j ks)) 0) → bool_byte (not t) ≡ brings rs ks j
  missing_brings missing t test = rw (missing_holds rs (get_or ks j 0) i missing, test) (go (eqb (occurrences (get_or ks j 0) (take j ks)) 0))
    where
      go : (b : Bool) → bool_byte (not (not b)) ≡ cond b 1 0
      go true = refl
      go false = refl

pub brings_at_most : (rs : List Row) (ks : List ℕ) (j : ℕ) → brings rs ks j ≤ 1
brings_at_most rs ks j = go (not (holds rs (place rs (get_or ks j 0)) (get_or ks j 0)) && eqb (occurrences (get_or ks j 0) (take j ks)) 0)
  where
    go : (b : Bool) → cond b 1 0 ≤ 1
    go true = omega arith
    go false = omega arith

first_is : (rs : List Row) (k n : ℕ) → first (look k rs) n ≡ cond (not (holds rs (place rs k) k) && eqb n 0) 1 0
first_is rs k n = rw (look_place k rs) (go (holds rs (place rs k) k) n)
  where
    go : (b : Bool) (n : ℕ) → first (cond b (Some (get_or rs (place rs k) blank).count) None) n ≡ cond (not b && eqb n 0) 1 0
    go true n = refl
    go false zero = refl
    go false (suc n) = rw (ne_eqb (suc n) 0 (λ z. omega arith))

pub one_looked_at : (rs : List Row) (ks : List ℕ) (all j : ℕ) → all ≡ length (touch_all (take j ks) rs) → j < length ks → (b : ℕ) → b ≡ brings rs ks j → all + b ≡ length (touch_all (take (j + 1) ks) rs)
one_looked_at rs ks all j so_far in_List b is =
    let k : ℕ = get_or ks j 0 in
    sym (ap (λ (n : ℕ). length (touch_all (take n ks) rs)) (add-one j)
    ∙ ap (λ (l : List ℕ). length (touch_all l rs)) (take-suc ks j 0 in_List)
    ∙ ap length (change_all-snoc (Some 0) (λ c. c) (take j ks) k rs)
    ∙ length_next k (take j ks) rs
    ∙ ap₂ ◌+◌ (sym so_far) (first_is rs k (occurrences k (take j ks)) ∙ sym is))

pub pair_looked_at : (rs : List Row) (ks : List ℕ) (all i : ℕ) → all ≡ length (touch_all (take (2 * i) ks) rs) → 2 * i + 1 < length ks → (b : ℕ) → b ≡ brings rs ks (2 * i) + brings rs ks (2 * i + 1)
    → all + b ≡ length (touch_all (take (2 * (i + 1)) ks) rs)
pair_looked_at rs ks all i so_far in_List b is =
    let j : ℕ = 2 * i in
    let c : ℕ = brings rs ks j in
    let both : all + c + brings rs ks (j + 1) ≡ length (touch_all (take (j + 1 + 1) ks) rs) = one_looked_at rs ks (all + c) (j + 1) (one_looked_at rs ks all j so_far (omega arith) c refl) in_List (brings rs ks (j + 1)) refl in
    let at : j + 1 + 1 ≡ 2 * (i + 1) = omega arith in
    let sum : all + b ≡ all + c + brings rs ks (j + 1) = omega arith in
    sum ∙ both ∙ ap (λ (n : ℕ). length (touch_all (take n ks) rs)) at

pub none_looked_at : (s : List ℕ) (n : ℕ) (ks : List ℕ) → n ≡ length (touch_all (take 0 ks) (rows s n))
unfolding change_all
none_looked_at s n ks = sym (length_rows s n)

pub all_looked_at : (rs : List Row) (ks : List ℕ) (all j : ℕ) → all ≡ length (touch_all (take j ks) rs) → length ks ≤ j → all ≡ length (touch_all ks rs)
all_looked_at rs ks all j e h = e ∙ ap (λ (l : List ℕ). length (touch_all l rs)) (take_all j ks h)

-- ---- a step and its child

brings_is : (rs : List Row) (ks : List ℕ) (j : ℕ) → brings rs ks j ≡ gained (look (get_or ks j 0) (touch_all (take j ks) rs)) (Some 0)
brings_is rs ks j = let k : ℕ = get_or ks j 0 in sym (gained_next k (take j ks) rs ∙ first_is rs k (occurrences k (take j ks)))

gains_none : (k : ℕ) (rs : List Row) → gained (look k rs) (Some 0) ≡ 0 → Listed k rs
gains_none k rs z = go (look k rs) refl z
  where
    go : (o : Option ℕ) → look k rs ≡ o → gained o (Some 0) ≡ 0 → Listed k rs
    go None e z = absurd (omega arith)
    go (Some c) e z = (c, e)

module _ (steps : Steps) (ranks : Ranks steps) (rs : List Row) (endings : EndingsListed rs) (i : ℕ) (more : i + 1 < length steps) where
  node : ℕ
  node = get_or steps i 0

  child : ℕ
  child = get_or steps (i + 1) 0

  -- the rows with the keys before them touched
  before : List Row
  before = touch_all (take (2 * i) (listed_keys steps)) rs

  child_brings : brings rs (listed_keys steps) (2 * i + 1) ≡ gained (look (child_key node child) before) (Some 0)
  unfolding node child before
  child_brings =
      let ks : List ℕ = listed_keys steps in
      let touched : touch_all (take (2 * i + 1) ks) rs ≡ touch (end_key node) before =
      ap (λ (n : ℕ). touch_all (take n ks) rs) (add-one (2 * i))
      ∙ ap (λ (l : List ℕ). touch_all l rs) (take-suc ks (2 * i) 0 (omega (arith, more, length_listed steps (omega (arith, more)))))
      ∙ change_all-snoc (Some 0) (λ c. c) (take (2 * i) ks) (get_or ks (2 * i) 0) rs
      ∙ ap (λ (k : ℕ). touch k before) (listed_ending steps i (omega (arith, more))) in
      brings_is rs ks (2 * i + 1)
      ∙ rw (listed_child steps i (omega (arith, more)), touched, look_other (Some 0) (λ c. c) (end_key node) (child_key node child) (λ q. omega (arith, end_below_child node child)) before)

  -- where the child brings none, its node is listed
  pub pair_none : brings rs (listed_keys steps) (2 * i + 1) ≡ 0 → brings rs (listed_keys steps) (2 * i) ≡ 0
  unfolding node child before
  pair_none z =
      let ks : List ℕ = listed_keys steps in
      let keeps : EndingsListed before = pairs_keep steps i rs (omega (arith, more)) ranks endings in
      let small : child < 2 ^ 64 = ranks_at steps (i + 1) more ranks in
      let there : Listed (end_key node) before = ending_listed node child before small keeps (gains_none (child_key node child) before (sym child_brings ∙ z)) in
      brings_is rs ks (2 * i) ∙ rw (listed_ending steps i (omega (arith, more)), there.1)

-- ---- no more rows than keys

pub touches_at_most : (ks : List ℕ) (rs : List Row) → length (touch_all ks rs) ≤ length rs + length ks
unfolding change_all
touches_at_most [] rs = omega arith
touches_at_most (k ∷ ks) rs = omega (arith, touches_at_most ks (touch k rs), one_more)
  where
    at_most_one : (o : Option ℕ) → gained o (Some 0) ≤ 1
    at_most_one None = omega arith
    at_most_one (Some c) = omega arith

    one_more : length (touch k rs) ≤ length rs + 1
    one_more = omega (arith, length_touch k rs, at_most_one (look k rs))

pub path_at_most : (p : Steps) (rs : List Row) → 1 ≤ length p → length (touch_all (listed_keys p) rs) ≤ length rs + 2 * length p - 1
path_at_most p rs h = omega (arith, touches_at_most (listed_keys p) rs, length_listed p h)
