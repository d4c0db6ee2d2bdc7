-- The sign of zero. Figures are equal where their 64 bits are, and any NaN equals any NaN: `≡`, by which every promise holds figures equal, is that. And minus zero
-- comes out of none of the five readings of a tracker, whatever it sees and is lent. Assumes nothing.
use Rattle.std.specs.Prelude.{◌≡◌, ℕ, ◌^◌, ◌<◌, true, ◌⊎◌, List, [], ◌∷◌, take, from_bits, Float}
use Rattle.std.specs.Float.{binary64}
use Rattle.std.specs.Float.Ieee.{nan_bits}
use Rattle.priors.specs.Tables.{LentTables}
use Rattle.priors.specs.Priors.{LentPriors, Counts}
use Rattle.book.specs.Figures.{All}
use Rattle.divergence.specs.Numbers.{minus_zero64}
use Rattle.divergence.specs.Probability.{figure}
use Rattle.divergence.specs.Divergence.{divergence}
use Rattle.divergence.specs.Readings.{Reading, refused, nothing, answered, Statistics}
use Rattle.divergence.specs.Answers.{VectorResult, AllResult}
use Rattle.divergence.specs.Asked.{Seen, Output, Telling, prob_asked, evidence_asked, kl_asked, all_asked, stats_asked}

-- ---- equality of figures

-- two patterns of 64 bits are the same, or both a NaN's
abbrev pub SameBits : ℕ → ℕ → Type 0
SameBits a b = (a ≡ b) ⊎ ((nan_bits binary64 a ≡ true) × (nan_bits binary64 b ≡ true))

-- the figures that two patterns stand for are equal exactly then
abbrev pub EqualByBits : Type 0
EqualByBits =
    (a b : ℕ) → a < 2 ^ 64 → b < 2 ^ 64
    → (from_bits binary64 a ≡ from_bits binary64 b → SameBits a b) × (SameBits a b → from_bits binary64 a ≡ from_bits binary64 b)

-- ---- no figure is minus zero

abbrev pub NotMinusZero : Float → Type 0
NotMinusZero x = x ≡ minus_zero64 → ⊥

-- no divergence and no probability, whatever tables and counts there are
abbrev pub NoDivergenceIsMinusZero : Type 0
NoDivergenceIsMinusZero = (G D : List Float) (prior evidence : Counts) → NotMinusZero (divergence G D prior evidence)

abbrev pub NoProbabilityIsMinusZero : Type 0
NoProbabilityIsMinusZero = (count whole : ℕ) → NotMinusZero (figure count whole)

-- ---- nor any that a reading tells

-- of an answer these figures are told
abbrev pub ToldWithout : {X : Type 0} → (X → List Float) → Reading X → Type 0
ToldWithout figures (refused n at) = Unit {0}
ToldWithout figures nothing = Unit {0}
ToldWithout figures (answered x) = All NotMinusZero (figures x)

abbrev pub figure_of : Float → List Float
figure_of x = x ∷ []

abbrev pub statistics_of : Statistics → List Float
statistics_of a = a.stats.max ∷ a.stats.min ∷ a.stats.moment1_nz ∷ a.stats.moment2_nz ∷ []

-- with an output, which is as it is afterwards: the figures of the places that are filled
abbrev pub divergences_in : Output → AllResult → List Float
divergences_in o a = take a.places o.figures

abbrev pub probabilities_in : Output → VectorResult → List Float
probabilities_in o v = v.ending ∷ take v.places o.figures

-- a reading with an output tells none of them
abbrev pub TellingWithout : {X : Type 0} → (Output → X → List Float) → Telling X → Type 0
TellingWithout figures t = ToldWithout (figures t.output) t.answer

abbrev pub NoMinusZero : Type 0
NoMinusZero =
    (s : Seen) (t : LentTables) (p : LentPriors) (rank : ℕ) (o : Output)
    → ToldWithout figure_of (kl_asked s t p rank)
    × TellingWithout divergences_in (all_asked s t p o)
    × ToldWithout statistics_of (stats_asked s t p)
    × TellingWithout probabilities_in (prob_asked s p rank o)
    × TellingWithout probabilities_in (evidence_asked s rank o)
