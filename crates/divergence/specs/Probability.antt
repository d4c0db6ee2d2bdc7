-- Probabilities: the mean of a Dirichlet distribution, each count divided by the total, rounded once. Assumes nothing.
use Rattle.std.specs.Prelude.{ℕ, ◌+◌, cond, List, [], ◌∷◌, map, nat_lt, Float}
use Rattle.std.specs.Prelude.{Option, None, Some, option_map}
use Rattle.priors.specs.Rows.{Row, change}
use Rattle.priors.specs.Priors.{Counts, total}
use Rattle.divergence.specs.Numbers.{flt, fdiv}

-- a count's figure
abbrev pub figure : ℕ → ℕ → Float
figure count whole = fdiv (flt count) (flt whole)

-- the figures of rows
abbrev pub figures_of : ℕ → List Row → List Float
figures_of whole rs = map (λ (r : Row). figure r.count whole) rs

-- each child of the evidence adds its count to the prior's child; one unknown to the prior comes in
unfoldable pub with_evidence : List Row → List Row → List Row
with_evidence [] prior = prior
with_evidence (e ∷ es) prior = with_evidence es (change (Some e.count) (λ c. c + e.count) e.key prior)

-- the prior with the evidence added to it; an unlisted node adds nothing
unfoldable pub posterior : Counts → Option Counts → Counts
posterior p None = p
posterior p (Some e) = record { ending = p.ending + e.ending; children = with_evidence e.children p.children }

-- `prob_vector`: of prior and evidence; none if the node has no prior
unfoldable pub prob_vector : Option Counts → Option Counts → Option Counts
prob_vector prior evidence = option_map (λ p. posterior p evidence) prior

-- counts with a total of 0 give no probabilities
unfoldable pub with_total : Counts → Option Counts
with_total c = cond (nat_lt 0 (total c)) (Some c) None

-- `evidence_prob_vector`: of the evidence alone; none if the node is unlisted or its total is 0
unfoldable pub evidence_prob_vector : Option Counts → Option Counts
evidence_prob_vector None = None
evidence_prob_vector (Some e) = with_total e
