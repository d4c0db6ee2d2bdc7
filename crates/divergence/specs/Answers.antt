-- The answers' numbers and values: what each answer of the code stands for. Assumes nothing.
use Rattle.std.specs.Prelude.{ℕ, length, Float, Option, None, Some, Result, Ok, Err}
use Rattle.priors.specs.declared.refusals.Refusal.{Refusal}
use Rattle.priors.specs.declared.refusals.Reason.{Reason}
use Rattle.priors.specs.Refusals.{reason_number, number_of, named_node}
use Rattle.priors.specs.Priors.{Counts, total}
use Rattle.divergence.specs.declared.answers.ProbVector.{ProbVector}
use Rattle.divergence.specs.declared.answers.AllNodeKl.{AllNodeKl}
use Rattle.divergence.specs.declared.statistics.Tally.{Tally}
use Rattle.divergence.specs.Probability.{figure}
use Rattle.divergence.specs.Readings.{Reading, refused, nothing, answered, mapped, Divergences, Statistics}

-- ---- `prob_vector` and `evidence_prob_vector`: the number of places and the ending's figure stand in the result

pub record VectorResult : Type 0 where
  pub places : ℕ
  pub ending : Float

abbrev pub vector_answer : Result (Option ProbVector) Reason → Reading VectorResult
vector_answer (Ok (Some v)) = answered (record { places = v.places; ending = v.ending })
vector_answer (Ok None) = nothing
vector_answer (Err reason) = refused (reason_number reason) None

abbrev pub vector_result : Reading Counts → Reading VectorResult
vector_result r = mapped (λ (c : Counts). record { places = length c.children; ending = figure c.ending (total c) }) r

-- ---- `posterior_kl_divergence`

abbrev pub kl_answer : Result (Option Float) Refusal → Reading Float
kl_answer (Ok (Some x)) = answered x
kl_answer (Ok None) = nothing
kl_answer (Err r) = refused (number_of r) (named_node r)

-- ---- `all_node_kl`: the number of places and the number skipped stand in the result

pub record AllResult : Type 0 where
  pub places : ℕ
  pub skipped : ℕ

abbrev pub all_answer : Result AllNodeKl Refusal → Reading AllResult
all_answer (Ok a) = answered (record { places = a.places; skipped = a.skipped })
all_answer (Err r) = refused (number_of r) (named_node r)

abbrev pub all_result : Reading Divergences → Reading AllResult
all_result r = mapped (λ (a : Divergences). record { places = length a.places; skipped = a.skipped }) r

-- ---- `kl_div_stats`

abbrev pub stats_answer : Result Tally Refusal → Reading Statistics
stats_answer (Ok t) = answered (record { stats = t.stats; skipped = t.skipped })
stats_answer (Err r) = refused (number_of r) (named_node r)
