-- `KLDivergenceBaseline::stats`: the figures at a length i, and numbers 17 and 18. Below the first knot, or with no knots, all figures are 0: a departure from the
-- textbook, which has no value there; goko does the same. Assumes nothing.
use Rattle.std.specs.Prelude.{ℕ, suc, ◌+◌, ◌-◌, ◌*◌, Bool, cond, not, ◌&&◌, List, [], ◌∷◌, eqb, leb, ltb, length, get_or, Float, None, Result, Ok, Err}
use Rattle.priors.specs.Below.{all_below}
use Rattle.priors.specs.Rules.{rule, first_broken}
use Rattle.priors.specs.Refusals.{reason_number}
use Rattle.divergence.specs.Numbers.{flt}
use Rattle.divergence.specs.Readings.{Reading, refused, answered, unless}
use Rattle.baseline.specs.declared.figures.MeanVar.{MeanVar}
use Rattle.baseline.specs.declared.five.Five.{Five}
use Rattle.priors.specs.declared.refusals.Reason.{Reason}
use Rattle.baseline.specs.Limits.{max_sequences, max_knots, knot_values}
use Rattle.baseline.specs.Sums.{sums_at}
use Rattle.baseline.specs.Figures.{to_mean_var, interpolated, weight, no_figures}

-- the knot numbered k from 0
abbrev pub knot_at : List ℕ → ℕ → ℕ
knot_at knots k = get_or knots k 0

-- how many knots are not above i
unfoldable pub not_above : List ℕ → ℕ → ℕ
not_above [] i = 0
not_above (k ∷ ks) i = cond (leb k i) (suc (not_above ks i)) (not_above ks i)

-- ---- the figures

-- at the knot numbered k, of s sequences
unfoldable pub knot_figures : List Float → ℕ → ℕ → Five MeanVar
knot_figures values s k = to_mean_var (sums_at values k) (flt s)

-- on the straight line through the knots numbered k and k + 1
unfoldable pub line_figures : List ℕ → List Float → ℕ → ℕ → ℕ → Five MeanVar
line_figures knots values s i k =
    interpolated (knot_figures values s k) (knot_figures values s (k + 1)) (weight i (knot_at knots k) (knot_at knots (k + 1)))

-- with n knots not above i: below the first or no knots, at a knot, between two, past the last
unfoldable pub figures_after : List ℕ → List Float → ℕ → ℕ → ℕ → Five MeanVar
figures_after knots values s i n =
    cond (eqb n 0) no_figures
    (cond (eqb (knot_at knots (n - 1)) i) (knot_figures values s (n - 1))
    (cond (ltb n (length knots)) (line_figures knots values s i (n - 1))
    (line_figures knots values s i (n - 2))))

unfoldable pub figures_at : List ℕ → List Float → ℕ → ℕ → Five MeanVar
figures_at knots values s i = figures_after knots values s i (not_above knots i)

-- ---- the rules

-- the knot numbered k lies below the next
unfoldable pub rises_at : List ℕ → ℕ → Bool
rises_at knots k = ltb (knot_at knots k) (knot_at knots (k + 1))

unfoldable pub rising : List ℕ → Bool
rising knots = all_below (length knots - 1) (rises_at knots)

-- 17: 1 to 64 sequences, at most 1,024 knots, ten values a knot, knots rising
unfoldable pub baseline_fits : List ℕ → List Float → ℕ → Bool
baseline_fits knots values s =
    leb 1 s && (leb s max_sequences && (leb (length knots) max_knots && (eqb (length values) (knot_values * length knots) && rising knots)))

-- 18: one knot, and a length past it
unfoldable pub past_one_knot : List ℕ → ℕ → Bool
past_one_knot knots i = eqb (length knots) 1 && ltb (knot_at knots 0) i

unfoldable pub stats_refusal : List ℕ → List Float → ℕ → ℕ → ℕ
stats_refusal knots values s i = first_broken (rule 17 (baseline_fits knots values s) ∷ rule 18 (not (past_one_knot knots i)) ∷ [])

-- ---- the answer

unfoldable pub baseline_reading : List ℕ → List Float → ℕ → ℕ → Reading (Five MeanVar)
baseline_reading knots values s i = unless (stats_refusal knots values s i) (answered (figures_at knots values s i))

-- what an answer of the code stands for
abbrev pub baseline_answer : Result (Five MeanVar) Reason → Reading (Five MeanVar)
baseline_answer (Ok f) = answered f
baseline_answer (Err reason) = refused (reason_number reason) None
