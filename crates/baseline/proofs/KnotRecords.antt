-- A sequence that nothing stops has a record for each sampled path, of that path's sequence length, and these are the lengths of the knots. Assumes nothing.
use mathlib.Core.Path.{◌≡◌, refl, sym, ap, ◌∙◌}
use mathlib.Core.Bool.{Bool, true, false, cond}
use mathlib.Core.List.{List, [], ◌∷◌, ◌++◌, map}
use Prim.Native.Nat.{ℕ, zero, suc, ◌+◌, ◌-◌, ◌*◌, ◌%◌, ◌≤◌}
use native.Mathlib.Nat.{div-add-mod'}
use native.Mathlib.Omega.{arith}
use lib.Dec.{eqb}
use lib.ListN.{length, length-append}
use lib.Ieee.{Float, lt}
use borrow.Author.Tests.{eqb-true}
use Rattle.priors.specs.Below.{list_of}
use Rattle.priors.specs.Tables.{tables_refusal}
use Rattle.priors.specs.Priors.{layer_of, priors_refusal}
use Rattle.book.specs.Path.{Steps, path_of}
use Rattle.book.specs.Recount.{window_part, sequence_length}
use Rattle.book.specs.Claims.{Recount, since, add_refusal, restarted, joined}
use Rattle.book.specs.Batches.{path_in}
use Rattle.divergence.specs.declared.statistics.KLDivergenceStats.{KLDivergenceStats}
use Rattle.divergence.specs.Numbers.{tiny64}
use Rattle.divergence.specs.Statistics.{Place, Walk, stopped as ended, walked, walk, no_stats, counted, noted, stats_over}
use Rattle.divergence.specs.Readings.{unless, stats_reading_of, stats_reading}
use Rattle.divergence.specs.RecountNodes.{recount_nodes}
use Rattle.baseline.specs.Training.{Lent, Until, stopped, reached, and_then, unless_stopped, recorded, recount_stats, records_from, sequence_records, knot_count, knot_lengths}
use Rattle.baseline.specs.Claims.{RecordForEachKnot}
use Rattle.baseline.proofs.SampleLaws.{knots_before, knot_of_lem, count_is, grows}

abbrev length_of : KLDivergenceStats → ℕ
length_of r = r.sequence_len

-- 1 for what is reached
abbrev arrived : {X : Type 0} → Until X → ℕ
arrived (stopped n at) = 0
arrived (reached x) = 1

abbrev records : Until (List KLDivergenceStats) → List KLDivergenceStats
records (stopped n at) = []
records (reached rs) = rs

-- ---- the statistics of the recount are of its sequence length

either_length : (s : KLDivergenceStats) (x : Float) (b : Bool) → length_of (cond b (counted s x) s) ≡ length_of s
unfolding counted
either_length s x true = refl
either_length s x false = refl

noted_length : (s : KLDivergenceStats) (x : Float) → length_of (noted s x) ≡ length_of s
unfolding noted
noted_length s x = either_length s x (lt tiny64 x)

over_length : (s : KLDivergenceStats) (ps : List Place) → length_of (stats_over s ps) ≡ length_of s
unfolding stats_over
over_length s [] = refl
over_length s (p ∷ ps) = over_length (noted s p.value) ps ∙ noted_length s p.value

read_length : (L n m : ℕ) (w : Walk) (a : KLDivergenceStats) → recorded (unless n (unless m (unless 0 (stats_reading_of L w)))) ≡ reached a → length_of a ≡ L
read_length L (suc n) m w a h = let z : ◌≡◌ {A = ℕ} 0 1 = ap arrived h in absurd (omega arith)
read_length L zero (suc m) w a h = let z : ◌≡◌ {A = ℕ} 0 1 = ap arrived h in absurd (omega arith)
read_length L zero zero (ended n node) a h = let z : ◌≡◌ {A = ℕ} 0 1 = ap arrived h in absurd (omega arith)
read_length L zero zero (walked ps k) a h = sym (ap held_length h) ∙ over_length (no_stats L) ps
  where
    held_length : Until KLDivergenceStats → ℕ
    held_length (stopped n at) = 0
    held_length (reached s) = length_of s

stats_length : (x : Lent) (r : Recount) (a : KLDivergenceStats) → recount_stats x r ≡ reached a → length_of a ≡ sequence_length r.window r.paths
unfolding recount_stats stats_reading
stats_length x r a h =
    read_length (sequence_length r.window r.paths) (tables_refusal x.G x.D) (priors_refusal x.nodes x.children (layer_of x.floor)) (walk x.G x.D x.nodes x.children (layer_of x.floor) (recount_nodes r.window r.paths (since r))) a h

-- with window 0 that is the number of paths
all_paths : (r : Recount) (p : Steps) (i : ℕ) → r.window ≡ 0 → length r.paths ≡ i → sequence_length r.window (r.paths ++ p ∷ []) ≡ suc i
unfolding sequence_length window_part
all_paths r p i w l = rw w (omega (arith, length-append r.paths (p ∷ [])))

-- ---- the lengths of a sequence's records are those of the sampled paths

-- j + 1 for each of the m numbers j from i on that the rate divides
unfoldable sampled : ℕ → ℕ → ℕ → List ℕ
sampled rate i zero = []
sampled rate i (suc m) = cond (eqb (i % rate) 0) (suc i ∷ sampled rate (suc i) m) (sampled rate (suc i) m)

one_more : (i n : ℕ) (b : Bool) (u : Until KLDivergenceStats) (rest : Until (List KLDivergenceStats)) (rs : List KLDivergenceStats) (tail : List ℕ)
    → ((a : KLDivergenceStats) → u ≡ reached a → length_of a ≡ suc i)
    → ((more : List KLDivergenceStats) → rest ≡ reached more → map length_of more ≡ tail)
    → unless_stopped n (cond b (and_then u rest) rest) ≡ reached rs → map length_of rs ≡ cond b (suc i ∷ tail) tail
one_more i (suc n) b u rest rs tail hu hr h = let z : ◌≡◌ {A = ℕ} 0 1 = ap arrived h in absurd (omega arith)
one_more i zero false u rest rs tail hu hr h = hr rs h
one_more i zero true (stopped n at) rest rs tail hu hr h = let z : ◌≡◌ {A = ℕ} 0 1 = ap arrived h in absurd (omega arith)
one_more i zero true (reached a) (stopped n at) rs tail hu hr h = let z : ◌≡◌ {A = ℕ} 0 1 = ap arrived h in absurd (omega arith)
one_more i zero true (reached a) (reached more) rs tail hu hr h =
    ap (λ (l : List KLDivergenceStats). map length_of l) (sym (ap records h)) ∙ ap (λ (n : ℕ). n ∷ map length_of more) (hu a refl) ∙ ap (λ (l : List ℕ). suc i ∷ l) (hr more refl)

lengths_are : (x : Lent) (first : ℕ) (r : Recount) (i m : ℕ) (rs : List KLDivergenceStats) → r.window ≡ 0 → length r.paths ≡ i
    → records_from x first r i m ≡ reached rs → map length_of rs ≡ sampled x.rate i m
unfolding records_from sampled
lengths_are x first r i zero rs w l h = ap (λ (u : List KLDivergenceStats). map length_of u) (sym (ap records h))
lengths_are x first r i (suc m) rs w l h =
    let path : List ℕ = path_in x.sequences (first + i) in
    let after : Recount = joined r (path_of path) in
    one_more i (add_refusal r path) (eqb (i % x.rate) 0) (recount_stats x after) (records_from x first after (suc i) m) rs (sampled x.rate (suc i) m)
    (λ a e. stats_length x after a e ∙ all_paths r (path_of path) i w l)
    (λ more e. lengths_are x first after (suc i) m more w (omega (arith, length-append r.paths (path_of path ∷ []))) e) h

-- ---- and these are the knots'

module _ (rate : ℕ) (some : 1 ≤ rate) where
  -- the lengths of the knots from the one numbered k on
  from : ℕ → ℕ → ℕ
  from k j = (k + j) * rate + 1

  from_next : (k : ℕ) → ◌≡◌ {A = ℕ → ℕ} (from (suc k)) (λ j. from k (suc j))
  unfolding from
  from_next k = λ t j. let e : suc k + j ≡ k + suc j = omega arith in e t * rate + 1

  -- the knots before i are K, those before the last path N, and b says whether i is sampled
  next : (i N : ℕ) (b : Bool) (tail : List ℕ) → let K = knots_before rate i in
      eqb (i % rate) 0 ≡ b → cond b (suc K) K ≤ N → tail ≡ list_of (N - cond b (suc K) K) (from (cond b (suc K) K)) → cond b (suc i ∷ tail) tail ≡ list_of (N - K) (from K)
  unfolding from
  next i N false tail t l h = h
  next i N true tail t l h =
      let K : ℕ = knots_before rate i in
      let m : i % rate ≡ 0 = eqb-true (i % rate) 0 t in
      let k : K * rate ≡ i = ap (λ (n : ℕ). n * rate) (knot_of_lem rate some i m) ∙ (let d = div-add-mod' i rate in omega arith) in
      let z : (K + 0) * rate ≡ K * rate = ap (λ (n : ℕ). n * rate) (omega arith) in
      let e : N - K ≡ suc (N - suc K) = omega arith in
      let first : suc i ≡ (K + 0) * rate + 1 = omega arith in
      let rest : tail ≡ list_of (N - suc K) (λ j. from K (suc j)) = h ∙ ap (list_of (N - suc K)) (from_next K) in
      rw e (ap (λ (n : ℕ). n ∷ tail) first ∙ ap (λ (l : List ℕ). ((K + 0) * rate + 1) ∷ l) rest)

  sampled_are : (i m : ℕ) → sampled rate i m ≡ list_of (knots_before rate (i + m) - knots_before rate i) (from (knots_before rate i))
  unfolding sampled knots_before
  sampled_are i zero =
      let e : i + 0 ≡ i = omega arith in
      let none : knots_before rate (i + 0) - knots_before rate i ≡ 0 = rw e (omega arith) in
      rw none
  sampled_are i (suc m) =
      let e : i + suc m ≡ suc i + m = omega arith in
      rw e (next i (knots_before rate (suc i + m)) (eqb (i % rate) 0) (sampled rate (suc i) m) refl (grows rate some (suc i) (suc i + m) (omega arith)) (sampled_are (suc i) m))

  knots_are : (n : ℕ) → sampled rate 0 n ≡ knot_lengths (knot_count n rate) rate
  unfolding knots_before from
  knots_are n =
      let e : knots_before rate (0 + n) - 0 ≡ knot_count n rate = let z : 0 + n ≡ n = omega arith in rw z (omega (arith, count_is rate some n)) in
      sampled_are 0 n ∙ ap (λ (c : ℕ). list_of c (λ j. (0 + j) * rate + 1)) e ∙ ap (list_of (knot_count n rate)) (λ t j. let z : 0 + j ≡ j = omega arith in z t * rate + 1)

pub record_for_each_knot : RecordForEachKnot
unfolding sequence_records
record_for_each_knot x book_size q rs some h = lengths_are x.lent (q * x.n) (restarted 0 book_size 0) 0 x.n rs refl refl h ∙ knots_are x.lent.rate some x.n
