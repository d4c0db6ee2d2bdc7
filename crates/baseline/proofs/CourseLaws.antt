-- How training goes on: what the records of a sequence make of the values is what its next path makes of them and then the records after it, and so for the sequences.
-- A stop is met where it comes first. Assumes nothing.
use mathlib.Core.Path.{◌≡◌, refl, sym, ap, ◌∙◌}
use mathlib.Core.Bool.{Bool, true, false, cond}
use Prim.Native.Nat.{ℕ, zero, suc, ◌+◌, ◌-◌, ◌/◌, ◌%◌, ◌≤◌, ◌<◌}
use native.Mathlib.Numerals.{add-one}
use native.Mathlib.Omega.{arith}
use mathlib.Core.List.{List}
use Rattle.std.specs.Prelude.{Option, None}
use lib.Dec.{eqb}
use lib.Ieee.{Float}
use borrow.Author.Tests.{eqb-true}
use Rattle.priors.specs.declared.addresses.Address.{Address}
use Rattle.priors.specs.declared.refusals.Reason.{Reason}
use Rattle.priors.specs.declared.refusals.Refusal.TheVariants.{Plain}
use Rattle.priors.specs.Refusals.{reason_number}
use Rattle.book.specs.Claims.{restarted}
use Rattle.divergence.specs.declared.statistics.KLDivergenceStats.{KLDivergenceStats}
use Rattle.baseline.specs.Training.{Lent, Input, Until, stopped, reached, and_then, recount_stats, unless_stopped, records_from, sequence_records, all_records, add_records, add_all}
use Rattle.baseline.specs.Courses.{paths_of, recount_of, path_number, at_knot, sampled, one_path, entered, all_entered}
use Rattle.priors.proofs.RuleLaws.{by_number}
use Rattle.baseline.proofs.SampleLaws.{knots_before, knot_of_lem}

abbrev Values : Type 0
Values = Until (List Float)

abbrev onward : Values → (List Float → Values) → Values
onward (stopped n node) f = stopped n node
onward (reached values) f = f values

-- ---- one path

unless_stops : {X : Type 0} (r : Reason) (rest : Until X) → unless_stopped (reason_number r) rest ≡ stopped (reason_number r) None
unless_stops {X} r rest = by_number (λ (n : ℕ). unless_stopped n rest) (λ (n : ℕ). stopped n None) (λ m. refl) (Plain r)

module _ (x : Lent) (first i size : ℕ) (values : List Float) where
  pub refused_path : (r : Reason) → path_number x.sequences first i size ≡ reason_number r → one_path x first i size values ≡ stopped (reason_number r) None
  unfolding one_path
  refused_path r e = rw e (unless_stops r _)

  pub added_path : path_number x.sequences first i size ≡ 0 → one_path x first i size values ≡ sampled x.rate i (recount_stats x (recount_of x.sequences first (suc i) size)) values
  unfolding one_path
  added_path e = rw e

-- ---- one path, and then the others

one_more : (e : ℕ) (b : Bool) (q : Until KLDivergenceStats) (rest : Until (List KLDivergenceStats)) (k : ℕ) (values : List Float)
    → entered k (unless_stopped e (cond b (and_then q rest) rest)) values
    ≡ onward (unless_stopped e (cond b (at_knot k q values) (reached values))) (λ after. entered (cond b (suc k) k) rest after)
unfolding add_records
one_more (suc e) b q rest k values = refl
one_more zero false q rest k values = refl
one_more zero true (stopped n at) rest k values = refl
one_more zero true (reached r) (stopped n at) k values = refl
one_more zero true (reached r) (reached rs) k values = refl

module _ (x : Lent) (first size : ℕ) where
  -- what is still to come of n paths from the one numbered i on
  abbrev pub left : ℕ → ℕ → List Float → Values
  left n i values = entered (knots_before x.rate i) (records_from x first (recount_of x.sequences first i size) i (n - i)) values

  -- at the start that is all of them
  pub all_left : (n : ℕ) (values : List Float) → left n 0 values ≡ entered 0 (records_from x first (restarted 0 size 0) 0 n) values
  unfolding knots_before paths_of
  all_left n values = let e : n - 0 ≡ n = omega arith in ap (λ (m : ℕ). entered 0 (records_from x first (restarted 0 size 0) 0 m) values) e

  -- after the last path nothing changes
  pub none_left : (n i : ℕ) → n ≤ i → (values : List Float) → left n i values ≡ reached values
  unfolding records_from add_records
  none_left n i h values = let e : n - i ≡ 0 = omega arith in rw e

  module _ (some : 1 ≤ x.rate) where
    sampled_is : (i : ℕ) (q : Until KLDivergenceStats) (values : List Float) (b : Bool) → eqb (i % x.rate) 0 ≡ b
        → cond b (at_knot (knots_before x.rate i) q values) (reached values) ≡ cond b (at_knot (i / x.rate) q values) (reached values)
    sampled_is i q values true t = ap (λ (k : ℕ). at_knot k q values) (knot_of_lem x.rate some i (eqb-true (i % x.rate) 0 t))
    sampled_is i q values false t = refl

    next : (n i : ℕ) → i < n → (values : List Float) → left n i values ≡ onward (one_path x first i size values) (left n (suc i))
    unfolding records_from one_path knots_before paths_of
    next n i l values =
        let m : ℕ = n - suc i in
        let e : n - i ≡ suc m = omega arith in
        let number : ℕ = path_number x.sequences first i size in
        let q : Until KLDivergenceStats = recount_stats x (recount_of x.sequences first (suc i) size) in
        let rest : Until (List KLDivergenceStats) = records_from x first (recount_of x.sequences first (suc i) size) (suc i) m in
        let b : Bool = eqb (i % x.rate) 0 in
        rw e
        (one_more number b q rest (knots_before x.rate i) values
        ∙ ap (λ (y : Values). onward (unless_stopped number y) (left n (suc i))) (sampled_is i q values b refl))

    module _ (n i : ℕ) (l : i < n) (values : List Float) where
      pub path_stops : (number : ℕ) (place : Option Address) → one_path x first i size values ≡ stopped number place → left n i values ≡ stopped number place
      path_stops number place h = next n i l values ∙ ap (λ (y : Values). onward y (left n (suc i))) h

      pub path_goes : (after : List Float) → one_path x first i size values ≡ reached after → left n i values ≡ left n (i + 1) after
      path_goes after h = next n i l values ∙ ap (λ (y : Values). onward y (left n (suc i))) h ∙ ap (λ (j : ℕ). left n j after) (sym (add-one i))

-- ---- one sequence, and then the others

one_more_sequence : (a : Until (List KLDivergenceStats)) (rest : Until (List (List KLDivergenceStats))) (values : List Float)
    → all_entered (and_then a rest) values ≡ onward (entered 0 a values) (λ after. all_entered rest after)
unfolding add_all
one_more_sequence (stopped n at) rest values = refl
one_more_sequence (reached rs) (stopped n at) values = refl
one_more_sequence (reached rs) (reached rss) values = refl

module _ (x : Input) (size : ℕ) where
  -- what is still to come from the sequence numbered q on
  abbrev pub all_values_left : ℕ → List Float → Values
  all_values_left q values = all_entered (all_records x size q (x.s - q)) values

  next_sequence : (q : ℕ) → q < x.s → (values : List Float) → all_values_left q values ≡ onward (entered 0 (sequence_records x size q) values) (all_values_left (suc q))
  unfolding all_records
  next_sequence q l values =
      let e : x.s - q ≡ suc (x.s - suc q) = omega arith in
      rw e (one_more_sequence (sequence_records x size q) (all_records x size (suc q) (x.s - suc q)) values)

  module _ (q : ℕ) (l : q < x.s) (values : List Float) where
    pub sequence_stops : (number : ℕ) (place : Option Address) → entered 0 (sequence_records x size q) values ≡ stopped number place → all_values_left q values ≡ stopped number place
    sequence_stops number place h = next_sequence q l values ∙ ap (λ (y : Values). onward y (all_values_left (suc q))) h

    pub sequence_goes : (after : List Float) → entered 0 (sequence_records x size q) values ≡ reached after → all_values_left q values ≡ all_values_left (q + 1) after
    sequence_goes after h = next_sequence q l values ∙ ap (λ (y : Values). onward y (all_values_left (suc q))) h ∙ ap (λ (j : ℕ). all_values_left j after) (sym (add-one q))

  pub no_sequence_left : (q : ℕ) → x.s ≤ q → (values : List Float) → all_values_left q values ≡ reached values
  unfolding all_records add_all
  no_sequence_left q h values = let e : x.s - q ≡ 0 = omega arith in rw e

  pub every_sequence_left : (values : List Float) → all_values_left 0 values ≡ all_entered (all_records x size 0 x.s) values
  every_sequence_left values = let e : x.s - 0 ≡ x.s = omega arith in ap (λ (m : ℕ). all_entered (all_records x size 0 m) values) e
