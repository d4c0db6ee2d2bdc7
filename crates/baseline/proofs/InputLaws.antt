-- What is tested before the work: how the numbers come in order, and what their passing tells. Assumes nothing.
use mathlib.Core.Path.{◌≡◌, refl}
use mathlib.Core.Bool.{true, false, ◌&&◌}
use Prim.Native.Nat.{ℕ, zero, suc, ◌+◌, ◌*◌, ◌≤◌, ◌<◌}
use native.Mathlib.Nat.{suc-mul, mul-le-mul_right}
use native.Mathlib.Omega.{arith}
use mathlib.Core.List.{List}
use lib.Dec.{leb, eqb}
use lib.ListN.{length}
use lib.Ieee.{Float}
use borrow.Author.Tests.{leb-true, eqb-true, lt-leb, le-leb}
use Rattle.priors.specs.declared.refusals.Reason.{Reason}
use Rattle.priors.specs.declared.refusals.Refusal.TheVariants.{Plain}
use Rattle.priors.specs.Refusals.{reason_number}
use Rattle.priors.specs.Tables.{tables_refusal}
use Rattle.priors.specs.Priors.{layer_of, priors_refusal}
use Rattle.priors.proofs.RuleLaws.{some_number}
use Rattle.priors.proofs.Tests.{both}
use Rattle.book.proofs.Kept.{rule_passed}
use Rattle.book.specs.Form.{book_fits}
use Rattle.baseline.specs.declared.training.Training.{Training}
use Rattle.baseline.specs.Limits.{max_sequences, max_paths, max_knots}
use Rattle.divergence.specs.Checks.{or_else}
use Rattle.baseline.specs.Training.{Input, knot_count, input_fits, knot_room, sizes_refusal, train_refusal}

-- ---- two numbers

-- a reason's number ends the checks
stops : (a b : ℕ) (r : Reason) → reason_number r ≡ a → reason_number r ≡ or_else a b
stops zero b r h = absurd (omega (arith, (some_number (Plain r)).1))
stops (suc a) b r h = h

or_first : (a b : ℕ) → or_else a b ≡ 0 → a ≡ 0
or_first zero b h = refl
or_first (suc a) b h = h

or_second : (a b : ℕ) → or_else a b ≡ 0 → b ≡ 0
or_second zero b h = h
or_second (suc a) b h = absurd (omega arith)

-- ---- tables, priors, sizes

module _ (x : Input) (book knots : List ℕ) (values : List Float) where
  priors_number : ℕ
  priors_number = priors_refusal x.lent.nodes x.lent.children (layer_of x.lent.floor)

  sizes_number : ℕ
  sizes_number = sizes_refusal x.lent.sequences x.s x.n x.lent.rate book (knot_room knots values)

  pub tables_first : (r : Reason) → reason_number r ≡ tables_refusal x.lent.G x.lent.D → reason_number r ≡ train_refusal x book knots values
  unfolding train_refusal priors_number sizes_number
  tables_first r e = stops (tables_refusal x.lent.G x.lent.D) (or_else priors_number sizes_number) r e

  module _ (tables-fit : tables_refusal x.lent.G x.lent.D ≡ 0) where
    pub priors_second : (r : Reason) → reason_number r ≡ priors_refusal x.lent.nodes x.lent.children (layer_of x.lent.floor) → reason_number r ≡ train_refusal x book knots values
    unfolding train_refusal sizes_number
    priors_second r e = rw tables-fit (stops (priors_refusal x.lent.nodes x.lent.children (layer_of x.lent.floor)) sizes_number r e)

    module _ (priors-fit : priors_refusal x.lent.nodes x.lent.children (layer_of x.lent.floor) ≡ 0) where
      pub form_third : book_fits book ≡ false → 9 ≡ train_refusal x book knots values
      unfolding train_refusal sizes_refusal
      form_third f = rw (tables-fit, priors-fit, f)

      module _ (sized : book_fits book ≡ true) where
        pub input_fourth : input_fits x.lent.sequences x.s x.n x.lent.rate ≡ false → 16 ≡ train_refusal x book knots values
        unfolding train_refusal sizes_refusal
        input_fourth f = rw (tables-fit, priors-fit, sized, f)

        module _ (fits : input_fits x.lent.sequences x.s x.n x.lent.rate ≡ true) where
          pub room_last : knot_room knots values < knot_count x.n x.lent.rate → 13 ≡ train_refusal x book knots values
          unfolding train_refusal sizes_refusal
          room_last l = rw (tables-fit, priors-fit, sized, fits, lt-leb (knot_count x.n x.lent.rate) (knot_room knots values) l)

          pub none_refused : knot_count x.n x.lent.rate ≤ knot_room knots values → 0 ≡ train_refusal x book knots values
          unfolding train_refusal sizes_refusal
          none_refused l = rw (tables-fit, priors-fit, sized, fits, le-leb (knot_count x.n x.lent.rate) (knot_room knots values) l)

-- ---- what 16 leaves

module _ (sequences : List ℕ) (s n rate : ℕ) (fits : input_fits sequences s n rate ≡ true) where
  pub rate_some : 1 ≤ rate
  unfolding input_fits
  rate_some = leb-true 1 rate (both (leb 1 rate) _ fits).0

  after_rate : leb 1 s && (leb s max_sequences && (leb n max_paths && (eqb (length sequences) (516 * (s * n)) && leb (knot_count n rate) max_knots))) ≡ true
  unfolding input_fits
  after_rate = (both (leb 1 rate) _ fits).1

  pub few_sequences : s ≤ 64
  few_sequences = leb-true s 64 (both (leb s max_sequences) _ (both (leb 1 s) _ after_rate).1).0

  pub few_paths : n ≤ 65536
  few_paths = leb-true n 65536 (both (leb n max_paths) _ (both (leb s max_sequences) _ (both (leb 1 s) _ after_rate).1).1).0

  pub size_is : length sequences ≡ 516 * (s * n)
  size_is = eqb-true (length sequences) (516 * (s * n)) (both (eqb (length sequences) (516 * (s * n))) _ (both (leb n max_paths) _ (both (leb s max_sequences) _ (both (leb 1 s) _ after_rate).1).1).1).0

  -- the places of its paths
  pub place_lt : (q i : ℕ) → q < s → i < n → q * n + i < s * n
  place_lt q i l m = let most : suc q * n ≤ s * n = mul-le-mul_right n l in omega (arith, suc-mul q n)

  pub few_places : s * n ≤ 4194304
  few_places = let most : s * n ≤ 64 * n = mul-le-mul_right n few_sequences in omega (arith, few_paths)

-- of a training that passed
module _ (t : Training) where
  pub rate_in : 1 ≤ t.sequences.rate
  rate_in = rate_some t.sequences.places.now t.sequences.count t.sequences.paths t.sequences.rate t.fits

  pub paths_in : t.sequences.paths ≤ 65536
  paths_in = few_paths t.sequences.places.now t.sequences.count t.sequences.paths t.sequences.rate t.fits

-- ---- what no number leaves

-- three numbers, none of which refuses
pub three_passed : (a b c : ℕ) → or_else a (or_else b c) ≡ 0 → (a ≡ 0) × (b ≡ 0) × (c ≡ 0)
three_passed a b c h =
    let rest = or_second a (or_else b c) h in
    (or_first a (or_else b c) h, or_first b c rest, or_second b c rest)

-- the sizes
pub record SizesFit (sequences : List ℕ) (s n rate : ℕ) (book : List ℕ) (have : ℕ) : Type 0 where
  pub book_sized : book_fits book ≡ true
  pub room : knot_count n rate ≤ have

pub sizes_passed : (sequences : List ℕ) (s n rate : ℕ) (book : List ℕ) (have : ℕ) → sizes_refusal sequences s n rate book have ≡ 0 → SizesFit sequences s n rate book have
unfolding sizes_refusal
sizes_passed sequences s n rate book have h =
    let first = rule_passed (book_fits book) _ 8 h in
    let second = rule_passed (input_fits sequences s n rate) _ 15 first.1 in
    let third = rule_passed (leb (knot_count n rate) have) 0 12 second.1 in
    record { book_sized = first.0; room = leb-true (knot_count n rate) have third.0 }
