-- What specs/Floors.antt states. Assumes nothing.
use mathlib.Core.Path.{◌≡◌, refl, sym, ap, ◌∙◌}
use mathlib.Core.Logic.{⊎_elim}
use Prim.Native.Nat.{ℕ, zero, suc, ◌+◌, ◌*◌, ◌^◌, ◌<◌}
use mathlib.Core.Bool.{Bool, true, false, cond, not, ◌&&◌}
use mathlib.Core.List.{List, [], ◌∷◌}
use Rattle.std.specs.Prelude.{Option, Some, option_map}
use lib.Dec.{eqb, ltb}
use lib.IntN.{ℤ, pos, negsuc, pred_ℤ, neg_ℤ, ◌+ℤ◌, ◌-ℤ◌, pred_ℤ-+ℤ, +ℤ_invr, +ℤ-neg_ℤ_cancel, -ℤ-+ℤ_cancel}
use lib.Signed.{lt_z}
use mir.Syntax.{w32}
use mir.Val.{of_z, SFits}
use native.Mathlib.Omega.{arith}
use borrow.Author.Tests.{lt-ltb, le-ltb, eqb-true, eq-eqb, ne_eqb}
use Rattle.priors.specs.Address.{lift, rank, rank_of}
use Rattle.priors.specs.Priors.{records, layer_of, point_of, one_point, found_by, find_record, prior_of, prior_of_node, records_refusal, priors_refusal}
use Rattle.priors.specs.Floors.{same_scale, FoundBy, internal_index, GokosLayers, PriorIsThatFound, SharedPoint, OnePoint, OneFound, LeastFloor, least_floor, exact_record}
use Rattle.priors.specs.declared.records.Record.{Record}
use Rattle.priors.proofs.Tests.{three, eqb_same}
use Rattle.priors.proofs.Ranks.{lift_signed}
use Rattle.priors.proofs.BelowLaws.{first_true, second_true, both_true}
use Rattle.priors.proofs.LayerLaws.{below_floor, not_both, points_apart, one_found, found_high, found_one, found_no}
use Rattle.priors.proofs.SlotLaws.{empty_layer, points_differ_lem}
use Rattle.priors.proofs.PriorLaws.{recorded, records_first, points_last, accepted}

-- ---- in scales and points

point_is : (s : ℤ) (p : ℕ) → p < 2 ^ 32 → point_of (rank_of s p) ≡ p
unfolding rank
point_is s p h = omega arith

-- two numbers, the second below 2 ^ 32, are one number's
parts : (a b p q : ℕ) → p < 2 ^ 32 → q < 2 ^ 32 → eqb (b * 2 ^ 32 + q) (a * 2 ^ 32 + p) ≡ (not (ltb a b) && not (ltb b a)) && eqb p q
parts a b p q hp hq =
    ⊎_elim
    (λ l. rw (lt-ltb a b l) (ne_eqb (b * 2 ^ 32 + q) (a * 2 ^ 32 + p) (λ e. omega arith)))
    (⊎_elim
    (λ e. rw (le-ltb a b (omega arith), le-ltb b a (omega arith)) (eqb_same (b * 2 ^ 32 + q) (a * 2 ^ 32 + p) p q (λ f. omega arith) (λ f. omega arith)))
    (λ g. rw (le-ltb a b (omega arith), lt-ltb b a g) (ne_eqb (b * 2 ^ 32 + q) (a * 2 ^ 32 + p) (λ e. omega arith))))
    (three a b)

module _ (floor s t : ℤ) (p q : ℕ) (ff : SFits w32 floor) (fs : SFits w32 s) (ft : SFits w32 t) (hp : p < 2 ^ 32) (hq : q < 2 ^ 32) where
  same_address : eqb (rank_of t q) (rank_of s p) ≡ same_scale s t && eqb p q
  unfolding rank
  same_address = parts (lift (of_z w32 s)) (lift (of_z w32 t)) p q hp hq ∙ rw (lift_signed s t fs ft, lift_signed t s ft fs)

  pub one_point_lem : one_point (layer_of floor) (rank_of s p) (rank_of t q) ≡ lt_z s floor && (lt_z t floor && eqb p q)
  unfolding one_point
  one_point_lem = rw (below_floor s p floor fs hp ff, below_floor t q floor ft hq ff, point_is s p hp, point_is t q hq)

  pub found_by_lem : found_by (layer_of floor) (rank_of s p) (rank_of t q) ≡ cond (lt_z s floor) (lt_z t floor) (same_scale s t) && eqb p q
  unfolding found_by
  found_by_lem = rw (below_floor s p floor fs hp ff, one_point_lem, same_address) (go (lt_z s floor))
    where
      go : (b : Bool) → cond b (b && (lt_z t floor && eqb p q)) (same_scale s t && eqb p q) ≡ cond b (lt_z t floor) (same_scale s t) && eqb p q
      go true = refl
      go false = refl

pub found_in_scales : FoundBy
found_in_scales = found_by_lem

pub point_in_scales : OnePoint
point_in_scales = one_point_lem

-- ---- goko's layers

pred_below : (z : ℤ) → lt_z (pred_ℤ z) z ≡ true
pred_below (pos zero) = refl
pred_below (pos (suc n)) = lt-ltb n (suc n) (omega arith)
pred_below (negsuc n) = lt-ltb n (suc n) (omega arith)

not_below_itself : (z : ℤ) → lt_z z z ≡ false
not_below_itself (pos n) = le-ltb n n (omega arith)
not_below_itself (negsuc n) = le-ltb n n (omega arith)

-- a number that is neither below nor above another is it
neither : (a b : ℕ) → not (ltb a b) && not (ltb b a) ≡ true → a ≡ b
neither a b h =
    ⊎_elim
    (λ l. absurd (not_both (ltb a b) (first_true (not (ltb a b)) (not (ltb b a)) h) (lt-ltb a b l)))
    (⊎_elim (λ e. e) (λ l. absurd (not_both (ltb b a) (second_true (not (ltb a b)) (not (ltb b a)) h) (lt-ltb b a l))))
    (three a b)

same_is : (s t : ℤ) → same_scale s t ≡ true → s ≡ t
same_is (pos a) (pos b) h = ap pos (neither a b h)
same_is (pos a) (negsuc b) h = let z : ◌≡◌ {A = ℕ} 0 1 = cc in absurd (omega arith)
same_is (negsuc a) (pos b) h = let z : ◌≡◌ {A = ℕ} 0 1 = cc in absurd (omega arith)
same_is (negsuc a) (negsuc b) h = ap negsuc (sym (neither b a h))

is_same : (s : ℤ) → same_scale s s ≡ true
is_same s = rw (not_below_itself s)

module _ (floor s t : ℤ) where
  -- an index that is not 0 has its scale
  index_tells : s -ℤ floor +ℤ pos 1 ≡ t -ℤ floor +ℤ pos 1 → s ≡ t
  index_tells e =
      let back : (z : ℤ) → z -ℤ floor +ℤ pos 1 -ℤ pos 1 +ℤ floor ≡ z = λ z. ap (λ (y : ℤ). y +ℤ floor) (+ℤ-neg_ℤ_cancel (z -ℤ floor) (pos 1)) ∙ -ℤ-+ℤ_cancel z floor in
      sym (back s) ∙ ap (λ (y : ℤ). y -ℤ pos 1 +ℤ floor) e ∙ back t

-- a scale with the index 0 of what is below is below
zero_below : (floor t : ℤ) → pos 0 ≡ t -ℤ floor +ℤ pos 1 → lt_z t floor ≡ true
zero_below floor t e =
    let is : t ≡ pred_ℤ floor = index_tells floor t (pred_ℤ floor) (sym e ∙ sym one_less) in
    ap (λ (z : ℤ). lt_z z floor) is ∙ pred_below floor
  where
    one_less : pred_ℤ floor -ℤ floor +ℤ pos 1 ≡ pos 0
    one_less = ap (λ (y : ℤ). y +ℤ pos 1) (pred_ℤ-+ℤ floor (neg_ℤ floor) ∙ ap pred_ℤ (+ℤ_invr floor))

layers_same : (floor s t : ℤ) → cond (lt_z s floor) (lt_z t floor) (same_scale s t) ≡ true → internal_index floor s ≡ internal_index floor t
layers_same floor s t h = go (lt_z s floor) refl h
  where
    go : (b : Bool) → lt_z s floor ≡ b → cond b (lt_z t floor) (same_scale s t) ≡ true → cond b (pos 0) (s -ℤ floor +ℤ pos 1) ≡ internal_index floor t
    go true e h = rw h
    go false e h = sym (ap (λ (c : Bool). cond c (pos 0) (s -ℤ floor +ℤ pos 1)) e) ∙ ap (internal_index floor) (same_is s t h)

same_layers : (floor s t : ℤ) → internal_index floor s ≡ internal_index floor t → cond (lt_z s floor) (lt_z t floor) (same_scale s t) ≡ true
same_layers floor s t h = go (lt_z s floor) (lt_z t floor) refl refl h
  where
    go : (a b : Bool) → lt_z s floor ≡ a → lt_z t floor ≡ b → cond a (pos 0) (s -ℤ floor +ℤ pos 1) ≡ cond b (pos 0) (t -ℤ floor +ℤ pos 1) → cond a b (same_scale s t) ≡ true
    go true true ea eb h = refl
    go true false ea eb h = sym eb ∙ zero_below floor t h
    go false true ea eb h = let z : ◌≡◌ {A = ℕ} 0 1 = cc (sym ea ∙ zero_below floor s (sym h)) in absurd (omega arith)
    go false false ea eb h = ap (same_scale s) (sym (index_tells floor s t h)) ∙ is_same s

pub gokos_layers : GokosLayers
gokos_layers floor s t p q ff fs ft hp hq =
    let is = found_by_lem floor s t p q ff fs ft hp hq in
    let here = cond (lt_z s floor) (lt_z t floor) (same_scale s t) in (
      λ h. (layers_same floor s t (first_true here (eqb p q) (sym is ∙ h)), eqb-true p q (second_true here (eqb p q) (sym is ∙ h))),
      λ e f. is ∙ both_true (same_layers floor s t e) (eq-eqb p q f),
    )

-- ---- what is found, and 22

pub prior_is : PriorIsThatFound
unfolding prior_of
prior_is nodes children layer rank passed =
    let ok = accepted nodes children layer passed in (
      λ i l e. ap (option_map (prior_of_node children)) (found_one nodes layer rank ok.records_fit.ordered ok.apart i l e),
      λ h. ap (option_map (prior_of_node children)) (found_no nodes layer rank h),
    )

pub shared_point : SharedPoint
shared_point nodes layer = (points_apart nodes layer, points_differ_lem nodes layer)

pub one_record : OneFound
one_record nodes children layer rank i j passed l m p q =
    let ok = accepted nodes children layer passed in
    one_found nodes layer ok.records_fit.ordered ok.apart rank i j l m p q

-- ---- the least floor

no_scales : layer_of least_floor ≡ 0
unfolding lift
no_scales = refl

exact : (rank : ℕ) (rs : List Record) → find_record 0 rank rs ≡ exact_record rank rs
unfolding find_record exact_record
exact rank [] = refl
exact rank (r ∷ rs) =
    rw (found_high 0 rank r.rank (omega arith)) (ap (λ (o : Option Record). cond (eqb r.rank rank) (Some r) o) (exact rank rs))

-- 22 is passed, so that only the records' rules are left
no_rule : (nodes children : List ℕ) → priors_refusal nodes children 0 ≡ records_refusal nodes children
no_rule nodes children = go (records_refusal nodes children) refl
  where
    go : (n : ℕ) → records_refusal nodes children ≡ n → priors_refusal nodes children 0 ≡ records_refusal nodes children
    go zero e = points_last nodes children 0 (recorded nodes children e) ∙ ap (λ (b : Bool). cond b 0 22) (empty_layer nodes) ∙ sym e
    go (suc m) e = records_first nodes children 0 m e ∙ sym e

pub least_floor_lem : LeastFloor
unfolding prior_of
least_floor_lem nodes children rank = (
  ap (λ (layer : ℕ). option_map (prior_of_node children) (find_record layer rank (records nodes))) no_scales ∙ ap (option_map (prior_of_node children)) (exact rank (records nodes)),
  ap (priors_refusal nodes children) no_scales ∙ no_rule nodes children,
)
