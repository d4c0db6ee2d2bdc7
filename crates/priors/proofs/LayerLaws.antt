-- The look-up of nodes with a floor: which addresses lie in the layer below it, that at most one record fits where 22 passes, and what a search has to show.
-- Assumes nothing.
use mathlib.Core.Path.{◌≡◌, refl, sym, ap, ◌∙◌}
use mathlib.Core.Logic.{⊎_elim}
use mathlib.Core.Bool.{Bool, true, false, not, ◌&&◌}
use Prim.Native.Nat.{ℕ, zero, suc, ◌+◌, ◌*◌, ◌/◌, ◌^◌, ◌≤◌, ◌<◌}
use native.Mathlib.Omega.{arith}
use mathlib.Core.List.{List, [], ◌∷◌}
use Rattle.std.specs.Prelude.{None, Some}
use lib.Dec.{ltb, eqb}
use lib.IntN.{ℤ}
use lib.ListN.{length, get_or}
use lib.Signed.{lt_z}
use mir.Syntax.{w32}
use mir.Val.{to_z, of_z, SFits}
use mir.ValLaws.{to_z-of_z, of_z-to_z, of_z_fits}
use borrow.Author.Tests.{ltb-true, lt-ltb, le-ltb, eqb-true, eq-eqb}
use Rattle.priors.specs.declared.records.Record.{Record}
use Rattle.priors.specs.Address.{rank, rank_of, lift}
use Rattle.priors.specs.Priors.{record_at, record_count, records, ascends, layer_of, in_layer, point_of, one_point, found_by, find_record, clear_before, points_differ}
use Rattle.priors.specs.Layer.{floor_of, FirstFrom, Absent, Nowhere}
use Rattle.priors.proofs.Tests.{split, three, both}
use Rattle.priors.proofs.Ranks.{lift_lt, lift_back, lift_signed}
use Rattle.priors.proofs.BelowLaws.{all_at}
use Rattle.priors.proofs.RecordLaws.{no_record, length_records, get_d_records, ordered, not_below}

-- ---- below the floor: by the scale alone, strictly

pub below_floor : (s : ℤ) (p : ℕ) (floor : ℤ) → SFits w32 s → p < 2 ^ 32 → SFits w32 floor → in_layer (layer_of floor) (rank_of s p) ≡ lt_z s floor
unfolding rank
below_floor s p floor f h g =
    let high : rank_of s p / 2 ^ 32 ≡ lift (of_z w32 s) = omega (arith, lift_lt (of_z w32 s)) in
    ap (λ (n : ℕ). ltb n (layer_of floor)) high ∙ sym (lift_signed s floor f g)

-- a layer has one floor, and a floor one layer
pub layer_back : (layer : ℕ) → layer < 2 ^ 32 → layer_of (floor_of layer) ≡ layer
layer_back layer l = ap lift (of_z-to_z w32 (lift layer) (record { fits = lift_lt layer })) ∙ lift_back layer l

pub floor_back : (floor : ℤ) → SFits w32 floor → floor_of (layer_of floor) ≡ floor
floor_back floor f = ap (to_z w32) (lift_back (of_z w32 floor) (omega (arith, of_z_fits w32 floor f))) ∙ to_z-of_z w32 floor f

-- ---- what one point tells, and what is found by it

pub no_answer : (b : Bool) → (b ≡ true → ⊥) → b ≡ false
no_answer true h = absurd (h refl)
no_answer false h = refl

pub not_both : (b : Bool) → not b ≡ true → b ≡ true → ⊥
not_both true p q = let z : ◌≡◌ {A = ℕ} 0 1 = cc in omega arith
not_both false p q = let z : ◌≡◌ {A = ℕ} 0 1 = cc in omega arith

module _ (layer a b : ℕ) where
  pub point_holds : a / 2 ^ 32 < layer → b / 2 ^ 32 < layer → point_of a ≡ point_of b → one_point layer a b ≡ true
  unfolding one_point
  point_holds l m e = rw (lt-ltb (a / 2 ^ 32) layer l, lt-ltb (b / 2 ^ 32) layer m, eq-eqb (point_of a) (point_of b) e)

  pub point_parts : one_point layer a b ≡ true → (a / 2 ^ 32 < layer) × (b / 2 ^ 32 < layer) × (point_of a ≡ point_of b)
  unfolding one_point
  point_parts h =
      let t = both (in_layer layer a) (in_layer layer b && eqb (point_of a) (point_of b)) h in
      let u = both (in_layer layer b) (eqb (point_of a) (point_of b)) t.1 in
      (ltb-true (a / 2 ^ 32) layer t.0, ltb-true (b / 2 ^ 32) layer u.0, eqb-true (point_of a) (point_of b) u.1)

module _ (layer wanted own : ℕ) where
  pub found_low : wanted / 2 ^ 32 < layer → found_by layer wanted own ≡ one_point layer wanted own
  unfolding found_by
  found_low l = rw (lt-ltb (wanted / 2 ^ 32) layer l)

  pub found_high : layer ≤ wanted / 2 ^ 32 → found_by layer wanted own ≡ eqb own wanted
  unfolding found_by
  found_high l = rw (le-ltb (wanted / 2 ^ 32) layer l)

  pub exact_found : own ≡ wanted → found_by layer wanted own ≡ true
  exact_found e =
      ⊎_elim
      (λ l. found_low l ∙ point_holds layer wanted own l (omega arith) (ap point_of (sym e)))
      (λ l. found_high l ∙ eq-eqb own wanted e)
      (split (wanted / 2 ^ 32) layer)

-- ---- at most one

-- 22, at two places
pub points_apart : (s : List ℕ) (layer : ℕ) → points_differ s layer ≡ true → (j i : ℕ) → j < i → i < record_count s → one_point layer (record_at s i).rank (record_at s j).rank ≡ true → ⊥
unfolding points_differ clear_before
points_apart s layer differ j i l m t =
    not_both (one_point layer (record_at s i).rank (record_at s j).rank)
    (all_at (λ k. not (one_point layer (record_at s i).rank (record_at s k).rank)) i j (all_at (clear_before s layer) (record_count s) i differ m) l)
    t

module _ (s : List ℕ) (layer : ℕ) (up : ascends (records s) ≡ true) (differ : points_differ s layer ≡ true) where
  two_never : (wanted j i : ℕ) → j < i → i < record_count s → found_by layer wanted (record_at s i).rank ≡ true → found_by layer wanted (record_at s j).rank ≡ true → ⊥
  two_never wanted j i l m p q =
      ⊎_elim
      (λ b.
      let p' = point_parts layer wanted (record_at s i).rank (sym (found_low layer wanted (record_at s i).rank b) ∙ p) in
      let q' = point_parts layer wanted (record_at s j).rank (sym (found_low layer wanted (record_at s j).rank b) ∙ q) in
      points_apart s layer differ j i l m (point_holds layer (record_at s i).rank (record_at s j).rank p'.1 q'.1 (sym p'.2 ∙ q'.2)))
      (λ b.
      omega (arith, eqb-true (record_at s i).rank wanted (sym (found_high layer wanted (record_at s i).rank b) ∙ p), eqb-true (record_at s j).rank wanted (sym (found_high layer wanted (record_at s j).rank b) ∙ q), ordered s j i up l m))
      (split (wanted / 2 ^ 32) layer)

  -- where 4 and 22 pass, at most one record fits
  pub one_found : (wanted i j : ℕ) → i < record_count s → j < record_count s → found_by layer wanted (record_at s i).rank ≡ true → found_by layer wanted (record_at s j).rank ≡ true → i ≡ j
  one_found wanted i j l m p q =
      ⊎_elim (λ b. absurd (two_never wanted i j b m q p)) (⊎_elim (λ e. e) (λ b. absurd (two_never wanted j i b l p q))) (three i j)

-- ---- what a search shows

module _ (layer wanted : ℕ) where
  found_at : (rs : List Record) (i : ℕ) → i < length rs → ((j : ℕ) → j < i → found_by layer wanted (get_or rs j no_record).rank ≡ false) → found_by layer wanted (get_or rs i no_record).rank ≡ true → find_record layer wanted rs ≡ Some (get_or rs i no_record)
  unfolding find_record
  found_at [] i l h e = absurd (omega arith)
  found_at (r ∷ rs) zero l h e = rw e
  found_at (r ∷ rs) (suc i) l h e = rw (h 0 (omega arith)) (found_at rs i (omega arith) (λ j m. h (suc j) (omega arith)) e)

  found_nowhere : (rs : List Record) → ((j : ℕ) → j < length rs → found_by layer wanted (get_or rs j no_record).rank ≡ false) → find_record layer wanted rs ≡ None
  unfolding find_record
  found_nowhere [] h = refl
  found_nowhere (r ∷ rs) h = rw (h 0 (omega arith)) (found_nowhere rs (λ j m. h (suc j) (omega arith)))

module _ (s : List ℕ) (layer wanted : ℕ) where
  same_answer : (j : ℕ) → j < record_count s → found_by layer wanted (get_or (records s) j no_record).rank ≡ found_by layer wanted (record_at s j).rank
  same_answer j l = ap (λ (r : Record). found_by layer wanted r.rank) (get_d_records s j l)

  -- a record that fits is the one found
  pub found_one : ascends (records s) ≡ true → points_differ s layer ≡ true → (i : ℕ) → i < record_count s → found_by layer wanted (record_at s i).rank ≡ true → find_record layer wanted (records s) ≡ Some (record_at s i)
  found_one up differ i l e =
      found_at layer wanted (records s) i (omega (arith, length_records s))
      (λ j m. same_answer j (omega arith) ∙ no_answer _ (λ t. omega (arith, one_found s layer up differ wanted j i (omega arith) l t e)))
      (same_answer i l ∙ e)
      ∙ ap Some (get_d_records s i l)

  -- where none fits, none is found
  pub found_no : Nowhere s layer wanted → find_record layer wanted (records s) ≡ None
  found_no h =
      found_nowhere layer wanted (records s) (λ j m.
      let l : j < record_count s = omega (arith, length_records s) in
      same_answer j l ∙ no_answer _ (h j l))

  -- past the layer only the exact address fits
  pub none_exact : layer ≤ wanted / 2 ^ 32 → Absent s wanted → Nowhere s layer wanted
  none_exact high absent j l t = absent j l (eqb-true (record_at s j).rank wanted (sym (found_high layer wanted (record_at s j).rank high) ∙ t))

-- where the place of a rank has another, no record has it
pub none_there : (s : List ℕ) (k at : ℕ) → ascends (records s) ≡ true → FirstFrom s 0 k at → (at < record_count s → (record_at s at).rank ≡ k → ⊥) → Absent s k
none_there s k at up first other j l e =
    ⊎_elim
    (λ (b : j < at). omega (arith, first.2 j (omega arith) b))
    (λ (b : at ≤ j). other (omega arith) (omega (arith, first.3 at (omega arith) (omega arith), not_below s up at j b l)))
    (split j at)

-- ---- a search by point, group by group of one scale

-- none before this place has the point wanted
abbrev pub Passed : List ℕ → ℕ → ℕ → ℕ → Type 0
Passed s layer wanted upto = (j : ℕ) → j < upto → (record_at s j).rank / 2 ^ 32 < layer → point_of (record_at s j).rank ≡ point_of wanted → ⊥

-- the address with this scale and the point wanted
abbrev pub key_in : (scale wanted : ℕ) → ℕ
key_in scale wanted = scale * 2 ^ 32 + point_of wanted

-- the first address of the next scale
abbrev pub group_end : ℕ → ℕ
group_end scale = (scale + 1) * 2 ^ 32

module _ (s : List ℕ) (layer wanted : ℕ) (up : ascends (records s) ≡ true) (low : wanted / 2 ^ 32 < layer) where
  -- where none before a place has the point and none from it on, none is found
  pub none_left : (start : ℕ) → Passed s layer wanted start → ((j : ℕ) → start ≤ j → j < record_count s → (record_at s j).rank / 2 ^ 32 < layer → point_of (record_at s j).rank ≡ point_of wanted → ⊥) → Nowhere s layer wanted
  none_left start p q j l t =
      let a = point_parts layer wanted (record_at s j).rank (sym (found_low layer wanted (record_at s j).rank low) ∙ t) in
      ⊎_elim (λ b. p j b a.1 (sym a.2)) (λ b. q j b l a.1 (sym a.2)) (split j start)

  pub all_high : (start : ℕ) → start < record_count s → Passed s layer wanted start → layer ≤ (record_at s start).rank / 2 ^ 32 → Nowhere s layer wanted
  all_high start l p h = none_left start p (λ j b m t e. omega (arith, not_below s up start j b m))

  module _ (start scale key at : ℕ) (is : scale ≡ (record_at s start).rank / 2 ^ 32) (key_is : key ≡ key_in scale wanted) (first : FirstFrom s start key at) where
    -- none in the group has the point, if the place of its key has another
    group_passed : (at < record_count s → (record_at s at).rank ≡ key → ⊥) → (j : ℕ) → start ≤ j → j < record_count s → (record_at s j).rank < group_end scale → point_of (record_at s j).rank ≡ point_of wanted → ⊥
    group_passed other j b m g e =
        let found : (record_at s j).rank ≡ key = omega (arith, is, key_is, not_below s up start j b m, e) in
        ⊎_elim
        (λ (l : j < at). omega (arith, found, first.2 j b l))
        (λ (l : at ≤ j). other (omega arith) (omega (arith, found, first.3 at (omega arith) (omega arith), not_below s up at j l m)))
        (split j at)

    -- the key is past all records
    pub past_all : Passed s layer wanted start → at ≡ record_count s → Nowhere s layer wanted
    past_all p e =
        none_left start p (λ j b m t q.
        group_passed (λ l. absurd (omega arith)) j b m (omega (arith, first.2 j b (omega arith), key_is)) q)

    -- the record at the key's place is the one
    pub found_key : scale < layer → (record_at s at).rank ≡ key → found_by layer wanted (record_at s at).rank ≡ true
    found_key l e =
        let r = (record_at s at).rank in
        found_low layer wanted r low ∙ point_holds layer wanted r low (omega (arith, e, key_is)) (omega (arith, e, key_is))

    -- the next group begins at the first place past this one
    module _ (end next : ℕ) (end_is : end ≡ group_end scale) (then : FirstFrom s at end next) where
      pub passed_on : Passed s layer wanted start → (at < record_count s → (record_at s at).rank ≡ key → ⊥) → Passed s layer wanted next
      passed_on p other j l t e =
          ⊎_elim
          (λ (b : j < start). p j b t e)
          (λ (b : start ≤ j). ⊎_elim
          (λ (d : j < at). group_passed other j b (omega arith) (omega (arith, first.2 j b d, key_is)) e)
          (λ (d : at ≤ j). group_passed other j b (omega arith) (omega (arith, then.2 j d l, end_is)) e)
          (split j at))
          (split j start)
