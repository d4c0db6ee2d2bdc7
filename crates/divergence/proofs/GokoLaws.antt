-- goko's methods on f64 counts give what the readings' definitions have, as long as no total passes 2 ^ 53: sums of whole floats are those of the numbers (`Exact`), a
-- count is above 0 as a float where it is as a number, and ln gamma and digamma are asked for at whole numbers from 1 on. Assumes nothing.
use Rattle.std.proofs.Common.{◌≡◌, ℕ, zero, suc, ◌+◌, ◌*◌, ◌^◌, ◌<◌, ◌≤◌, min, Bool, true, false, cond, ◌||◌, eqb, ltb, List, [], ◌∷◌, map, length, pos, sym, refl, ap, ◌∙◌, ap₂, true≢false, add_comm, zero-add, zero-mul, arith, ltb-true}
use Rattle.std.specs.Prelude.{is_none, Option, None, Some, option_map}
use lib.Ieee.{Float, nan, inf, fin, down, of_bits, of_int, lt}
use lib.Ieee.Fits.{down_pos}
use lib.Ieee.Exact.{HasValue}
use Rattle.priors.specs.Rows.{Row, keys, change, count_of}
use Rattle.priors.specs.Priors.{Counts, count_sum, total}
use Rattle.priors.proofs.Orders.{Side, below, same, above, side, Alike, alike, unlike, compared}
use Rattle.priors.proofs.Tests.{ltb_same}
use Rattle.priors.proofs.PriorLaws.{Positive}
use Rattle.divergence.specs.declared.sums.Sums.{Sums}
use Rattle.divergence.specs.Numbers.{fadd, fdiv, flt, zero64}
use Rattle.divergence.specs.Probability.{figure, figures_of, with_evidence, posterior}
use Rattle.divergence.specs.Divergence.{no_sums, term, ending_term, prior_count, child_terms, no_less, closed, divergence, lacks_child}
use Rattle.book.specs.Figures.{in_window}
use Rattle.divergence.specs.declared.statistics.KLDivergenceStats.{KLDivergenceStats}
use Rattle.divergence.specs.Statistics.{Place, no_stats, counted, noted, stats_over}
use Rattle.divergence.specs.GokoFloats.{goko_noted, goko_noted_all, goko_stats, goko_sequence_len, where_found, FloatRow, float_row, FloatCounts, float_rows, float_counts, child_sum, float_total, add_child_pop, add_children, add_evidence, divided, float_vector, float_of, float_term, float_ending, float_terms, float_closed, goko_kl, Tabled}
use Rattle.divergence.proofs.Constants.{tiny_is, max_is, min_is, zero_is}
use Rattle.divergence.proofs.Exact.{flt_value, add_whole}
use Rattle.divergence.proofs.SumLaws.{count_le}
use Rattle.divergence.proofs.IndexZero.{child_positive, neither}

-- ---- 0, and above 0

zero_whole : zero64 ≡ flt 0
unfolding of_bits of_int
zero_whole = refl

scaled_above : (n d : ℕ) → 0 < d → ltb 0 (n * d) ≡ ltb 0 n
scaled_above zero d h = ap (ltb 0) (zero-mul d)
scaled_above (suc n) d h = ltb_same 0 (suc n * d) 0 (suc n) (λ _. omega arith) (λ k. absurd (omega arith))

above_zero : (n : ℕ) → n ≤ 2 ^ 53 → lt zero64 (flt n) ≡ ltb 0 n
unfolding lt
above_zero n h = ap (λ (x : Float). lt x (flt n)) zero_is ∙ go (flt n) (flt_value n h)
  where
    go : (x : Float) → HasValue x false n 1 → lt (fin false 0 (pos 0)) x ≡ ltb 0 n
    go nan v = absurd v
    go (inf s) v = absurd v
    go (fin true m e) v = absurd (true≢false v.0)
    go (fin false m e) v = ap₂ ltb (zero-mul (down e)) v.1 ∙ scaled_above n (down e) (down_pos e)

-- ---- totals

sum_whole : (t : ℕ) (rs : List Row) → t + count_sum rs ≤ 2 ^ 53 → child_sum (flt t) (float_rows rs) ≡ flt (t + count_sum rs)
unfolding child_sum count_sum
sum_whole t [] h = ap flt (omega arith)
sum_whole t (r ∷ rs) h =
    ap (λ (x : Float). child_sum x (float_rows rs)) (add_whole t r.count (omega arith) (omega arith))
    ∙ sum_whole (t + r.count) rs (omega arith)
    ∙ ap flt (omega arith)

-- goko's `total` is the whole total, made a float once
pub total_whole : (c : Counts) → total c ≤ 2 ^ 53 → float_total (float_counts c) ≡ flt (total c)
unfolding total float_total
total_whole c h =
    ap (λ (x : Float). fadd (flt c.ending) (child_sum x (float_rows c.children))) zero_whole
    ∙ ap (fadd (flt c.ending)) (sum_whole 0 c.children (omega arith) ∙ ap flt (zero-add (count_sum c.children)))
    ∙ add_whole c.ending (count_sum c.children) (omega arith) (omega arith)

-- ---- evidence added to a prior

abbrev grown : ℕ → ℕ → List Row → List Row
grown k c rs = change (Some c) (λ x. x + c) k rs

grown_sum : (k c : ℕ) (rs : List Row) → count_sum (grown k c rs) ≡ c + count_sum rs
unfolding change count_sum
grown_sum k c [] = refl
grown_sum k c (r ∷ rs) = go (side k r.key) (grown_sum k c rs)
  where
    go : Side k r.key → count_sum (grown k c rs) ≡ c + count_sum rs → count_sum (grown k c (r ∷ rs)) ≡ c + (r.count + count_sum rs)
    go (below l e) h = rw e
    go (same q e) h = rw e (omega arith)
    go (above l e) h = rw e (omega arith)

pop_whole : (k c : ℕ) (rs : List Row) → c + count_sum rs ≤ 2 ^ 53 → add_child_pop k (flt c) (float_rows rs) ≡ float_rows (grown k c rs)
unfolding add_child_pop change count_sum
pop_whole k c [] h = refl
pop_whole k c (r ∷ rs) h = go (side k r.key) (pop_whole k c rs (omega arith))
  where
    go : Side k r.key → add_child_pop k (flt c) (float_rows rs) ≡ float_rows (grown k c rs) → add_child_pop k (flt c) (float_rows (r ∷ rs)) ≡ float_rows (grown k c (r ∷ rs))
    go (below l e) i = rw e
    go (same q e) i = rw (e, add_whole r.count c (omega arith) (omega arith))
    go (above l e) i = rw (e, i)

pub children_sum : (es prior : List Row) → count_sum (with_evidence es prior) ≡ count_sum es + count_sum prior
unfolding with_evidence count_sum
children_sum [] prior = sym (zero-add (count_sum prior))
children_sum (e ∷ es) prior = omega (arith, children_sum es (grown e.key e.count prior), grown_sum e.key e.count prior)

children_whole : (es prior : List Row) → count_sum es + count_sum prior ≤ 2 ^ 53 → add_children (float_rows es) (float_rows prior) ≡ float_rows (with_evidence es prior)
unfolding add_children with_evidence count_sum
children_whole [] prior h = refl
children_whole (e ∷ es) prior h =
    ap (add_children (float_rows es)) (pop_whole e.key e.count prior (omega arith))
    ∙ children_whole es (grown e.key e.count prior) (omega (arith, grown_sum e.key e.count prior))

pub posterior_total : (p e : Counts) → total (posterior p (Some e)) ≡ total p + total e
unfolding posterior total
posterior_total p e = omega (arith, children_sum e.children p.children)

pub evidence_whole : (p e : Counts) → total p + total e ≤ 2 ^ 53 → add_evidence (float_counts p) (float_counts e) ≡ float_counts (posterior p (Some e))
unfolding add_evidence posterior total
evidence_whole p e h = λ i. record {
  singleton = add_whole p.ending e.ending (omega arith) (omega arith) i;
  children = children_whole e.children p.children (omega arith) i;
}

-- ---- probabilities

-- the figures of counts as goko hands them out
abbrev pub vector_of : Counts → FloatCounts
vector_of c = record { singleton = figure c.ending (total c); children = map (λ (r : Row). float_row r.key (figure r.count (total c))) c.children }

divided_rows : (t : ℕ) (rs : List Row)
    → map (λ (r : FloatRow). float_row r.key (fdiv r.count (flt t))) (float_rows rs) ≡ map (λ (r : Row). float_row r.key (figure r.count t)) rs
divided_rows t [] = refl
divided_rows t (r ∷ rs) = ap (◌∷◌ (float_row r.key (figure r.count t))) (divided_rows t rs)

pub vector_whole : (c : Counts) → total c ≤ 2 ^ 53 → float_vector (float_counts c) ≡ cond (ltb 0 (total c)) (Some (vector_of c)) None
unfolding float_vector divided
vector_whole c h = rw (total_whole c h, above_zero (total c) h, divided_rows (total c) c.children)

pub vector_keys : (c : Counts) → map (λ (r : FloatRow). r.key) (vector_of c).children ≡ keys c.children
vector_keys c = go c.children
  where
    go : (rs : List Row) → map (λ (r : FloatRow). r.key) (map (λ (r : Row). float_row r.key (figure r.count (total c))) rs) ≡ keys rs
    go [] = refl
    go (r ∷ rs) = ap (◌∷◌ r.key) (go rs)

pub vector_figures_lem : (c : Counts) → map (λ (r : FloatRow). r.count) (vector_of c).children ≡ figures_of (total c) c.children
vector_figures_lem c = go c.children
  where
    go : (rs : List Row) → map (λ (r : FloatRow). r.count) (map (λ (r : Row). float_row r.key (figure r.count (total c))) rs) ≡ figures_of (total c) rs
    go [] = refl
    go (r ∷ rs) = ap (◌∷◌ (figure r.count (total c))) (go rs)

-- ---- divergences

float_found : (k : ℕ) (rs : List Row) → float_of k (float_rows rs) ≡ option_map flt (count_of k rs)
unfolding float_of count_of
float_found k [] = refl
float_found k (r ∷ rs) = go (eqb r.key k) (float_found k rs)
  where
    go : (b : Bool) → float_of k (float_rows rs) ≡ option_map flt (count_of k rs) → cond b (Some (flt r.count)) (float_of k (float_rows rs)) ≡ option_map flt (cond b (Some r.count) (count_of k rs))
    go true h = refl
    go false h = h

is_found : (o : Option ℕ) → is_none o ≡ false → o ≡ Some (prior_count o)
is_found None h = let z : ◌≡◌ {A = ℕ} 0 1 = cc in absurd (omega arith)
is_found (Some c) h = refl

-- a total is its ending and its children
total_parts : (c : Counts) → total c ≡ c.ending + count_sum c.children
unfolding total
total_parts c = refl

module _ (lnGamma digamma : Float → Float) (G D : List Float) (g : Tabled lnGamma G) (d : Tabled digamma D) (alike : length G ≡ length D) (few : length G ≤ 2 ^ 53) where
  term_whole : (T : ℕ) (s : Sums) (a e : ℕ) → 1 ≤ T → T < length G → 1 ≤ a → e + a < length G → float_term lnGamma digamma (flt T) s (flt a) (flt e) ≡ term G D T s a e
  unfolding float_term term
  term_whole T s a e t l h k =
      rw (add_whole e a (omega arith) (omega arith), g a h (omega arith), g (e + a) (omega arith) k, d a h (omega arith), d T t (omega arith))

  ending_whole : (T a e : ℕ) → 1 ≤ T → T < length G → e + a < length G → float_ending lnGamma digamma (flt T) (flt a) (flt e) ≡ ending_term G D T no_sums a e
  unfolding float_ending ending_term
  ending_whole T a e t l k = rw (above_zero a (omega arith)) (go (ltb 0 a) refl)
    where
      go : (b : Bool) → ltb 0 a ≡ b → cond b (float_term lnGamma digamma (flt T) no_sums (flt a) (flt e)) no_sums ≡ cond b (term G D T no_sums a e) no_sums
      go true h = term_whole T no_sums a e t l (ltb-true 0 a h) k
      go false h = refl

  closed_whole : (T U : ℕ) → 1 ≤ T → T < length G → U < length G → T ≤ U → (s : Sums) → float_closed lnGamma digamma (flt T) (flt U) s ≡ closed G T U s
  unfolding float_closed closed no_less
  closed_whole T U t l k u s = rw (g T t l, g U (omega arith) k)

  module _ (p : Counts) (positive : Positive p) (l : total p < length G) where
    terms_whole : (s : Sums) (es : List Row) → lacks_child p.children es ≡ false → count_sum es + count_sum p.children < length G
        → float_terms lnGamma digamma (flt (total p)) (float_rows p.children) s (float_rows es) ≡ Some (child_terms G D (total p) p.children s es)
    unfolding float_terms child_terms lacks_child count_sum
    terms_whole s [] h k = refl
    terms_whole s (e ∷ es) h k =
        let o = count_of e.key p.children in
        let has = neither (is_none o) (lacks_child p.children es) h in
        let a = prior_count o in
        rw (float_found e.key p.children, is_found o has.0)
        (rw (term_whole (total p) s a e.count positive.total_positive l (child_positive p positive e.key has.0) (omega (arith, count_le e.key p.children)))
        (terms_whole (term G D (total p) s a e.count) es has.1 (omega arith)))

    pub kl_whole : (e : Counts) → lacks_child p.children e.children ≡ false → total p + total e < length G
        → goko_kl lnGamma digamma (float_counts p) (float_counts e) ≡ Some (divergence G D p e)
    unfolding goko_kl divergence
    kl_whole e h k =
        let t = positive.total_positive in
        rw (
          total_whole p (omega arith),
          total_whole e (omega arith),
          add_whole (total e) (total p) (omega arith) (omega arith),
          add_comm (total e) (total p),
          ending_whole (total p) p.ending e.ending t l (omega (arith, total_parts p, total_parts e)),
          terms_whole (ending_term G D (total p) no_sums p.ending e.ending) e.children h (omega (arith, total_parts p, total_parts e)),
          closed_whole (total p) (total p + total e) t l k (omega arith),
        )

-- where the prior lacks a child there is no figure, whatever the sums are by then
module _ (lnGamma digamma : Float → Float) where
  terms_none : (T : Float) (prior : List Row) (s : Sums) (es : List Row) → lacks_child prior es ≡ true → float_terms lnGamma digamma T (float_rows prior) s (float_rows es) ≡ None
  unfolding float_terms lacks_child
  terms_none T prior s [] h = let z : ◌≡◌ {A = ℕ} 0 1 = cc in absurd (omega arith)
  terms_none T prior s (e ∷ es) h = rw (float_found e.key prior) (go (count_of e.key prior) h (λ t i. terms_none T prior t es i))
    where
      go : (o : Option ℕ) → is_none o || lacks_child prior es ≡ true
          → ((t : Sums) → lacks_child prior es ≡ true → float_terms lnGamma digamma T (float_rows prior) t (float_rows es) ≡ None)
          → where_found (option_map flt o) (λ a. float_terms lnGamma digamma T (float_rows prior) (float_term lnGamma digamma T s a (flt e.count)) (float_rows es)) ≡ None
      go None h on = refl
      go (Some a) h on = on (float_term lnGamma digamma T s (flt a) (flt e.count)) h

  pub kl_none : (p e : Counts) → lacks_child p.children e.children ≡ true → goko_kl lnGamma digamma (float_counts p) (float_counts e) ≡ None
  unfolding goko_kl
  kl_none p e h =
      let T = float_total (float_counts p) in
      ap (option_map (float_closed lnGamma digamma T (fadd (float_total (float_counts e)) T)))
      (terms_none T p.children (float_ending lnGamma digamma T (flt p.ending) (flt e.ending)) e.children h)

-- ---- statistics

noted_same : (s : KLDivergenceStats) (x : Float) → noted s x ≡ goko_noted s x
unfolding noted counted goko_noted
noted_same s x = ap (λ (c : Float). cond (lt c x) (counted s x) s) tiny_is

noted_all : (s : KLDivergenceStats) (ps : List Place) → stats_over s ps ≡ goko_noted_all s ps
unfolding stats_over goko_noted_all
noted_all s [] = refl
noted_all s (p ∷ ps) = noted_all (noted s p.value) ps ∙ ap (λ (r : KLDivergenceStats). goko_noted_all r ps) (noted_same s p.value)

pub stats_same : (len : ℕ) (ps : List Place) → stats_over (no_stats len) ps ≡ goko_stats len ps
unfolding goko_stats
stats_same len ps = noted_all (no_stats len) ps ∙ rw (max_is, min_is, zero_whole)

pub length_same : (window paths : ℕ) → in_window window paths ≡ goko_sequence_len window paths
unfolding goko_sequence_len
length_same zero paths = refl
length_same (suc w) paths = go (compared (suc w) 0) (compared (min (suc w) paths) 0)
  where
    go : Alike (suc w) 0 → Alike (min (suc w) paths) 0 → in_window (suc w) paths ≡ goko_sequence_len (suc w) paths
    go (alike e t) b = absurd (omega arith)
    go (unlike n t) (alike e u) = rw (t, u) (omega arith)
    go (unlike n t) (unlike m u) = rw (t, u)
