-- What each reading answers and leaves, from what it sees of a tracker and what it is lent beside it: one definition a reading, which its contract cites and of
-- which the step of the claim over lists is made. Assumes nothing.
use Rattle.std.specs.Prelude.{ℕ, List, Float, Option, Result}
use Rattle.priors.specs.declared.refusals.Refusal.{Refusal}
use Rattle.priors.specs.declared.refusals.Reason.{Reason}
use Rattle.priors.specs.Tables.{LentTables}
use Rattle.priors.specs.Priors.{LentPriors, layer_of, Counts}
use Rattle.book.specs.declared.trackers.Tracker.{Tracker}
use Rattle.divergence.specs.declared.answers.ProbVector.{ProbVector}
use Rattle.divergence.specs.declared.answers.AllNodeKl.{AllNodeKl}
use Rattle.divergence.specs.Nodes.{Node}
use Rattle.divergence.specs.Readings.{Reading, Divergences, Statistics, form_refusal, nodes_of, sequence_len, room, prob_reading, evidence_reading, vector_addresses, vector_figures, kl_reading, all_reading, all_addresses, all_figures, stats_reading}
use Rattle.divergence.specs.Answers.{VectorResult, vector_answer, vector_result, AllResult, all_answer, all_result}

-- ---- what a reading sees and tells

-- of a tracker: 9 where its form is broken, else 0; the nodes that it lists; the number of paths in the window part
pub record Seen : Type 0 where
  pub form : ℕ
  pub listed : List Node
  pub sequence_length : ℕ

-- of a tracker that is lent
abbrev pub seen_of : Tracker → List ℕ → List ℕ → Seen
seen_of t book queue = record { form = form_refusal t book queue; listed = nodes_of t book; sequence_length = sequence_len t }

-- a lent output: addresses, 8 bytes each, and figures
pub record Output : Type 0 where
  pub addresses : List ℕ
  pub figures : List Float

abbrev pub lent_output : List ℕ → List Float → Output
lent_output addresses figures = record { addresses = addresses; figures = figures }

abbrev pub room_in : Output → ℕ
room_in o = room o.addresses o.figures

-- what a reading with an output tells: its answer, and what the output holds afterwards
pub record Telling (X : Type 0) : Type 0 where
  pub answer : Reading X
  pub output : Output

-- what the code's answer and the output afterwards come to
abbrev pub vector_told : Result (Option ProbVector) Reason → List ℕ → List Float → Telling VectorResult
vector_told a addresses figures = record { answer = vector_answer a; output = lent_output addresses figures }

abbrev pub all_kl_told : Result AllNodeKl Refusal → List ℕ → List Float → Telling AllResult
all_kl_told a addresses figures = record { answer = all_answer a; output = lent_output addresses figures }

-- ---- the readings

-- what an answer of counts tells and makes of the output, and what one of divergences does
abbrev pub vector_telling : Output → Reading Counts → Telling VectorResult
vector_telling o r = record { answer = vector_result r; output = lent_output (vector_addresses r o.addresses) (vector_figures r o.figures) }

abbrev pub all_telling : Output → Reading Divergences → Telling AllResult
all_telling o r = record { answer = all_result r; output = lent_output (all_addresses r o.addresses) (all_figures r o.figures) }

abbrev pub prob_asked : Seen → LentPriors → (rank : ℕ) → Output → Telling VectorResult
prob_asked s p rank o = vector_telling o (prob_reading s.form p.nodes p.children (layer_of p.floor) s.listed rank (room_in o))

abbrev pub evidence_asked : Seen → (rank : ℕ) → Output → Telling VectorResult
evidence_asked s rank o = vector_telling o (evidence_reading s.form s.listed rank (room_in o))

abbrev pub kl_asked : Seen → LentTables → LentPriors → (rank : ℕ) → Reading Float
kl_asked s t p rank = kl_reading s.form t.G t.D p.nodes p.children (layer_of p.floor) s.listed rank

abbrev pub all_asked : Seen → LentTables → LentPriors → Output → Telling AllResult
all_asked s t p o = all_telling o (all_reading s.form t.G t.D p.nodes p.children (layer_of p.floor) s.listed (room_in o))

abbrev pub stats_asked : Seen → LentTables → LentPriors → Reading Statistics
stats_asked s t p = stats_reading s.form t.G t.D p.nodes p.children (layer_of p.floor) s.listed s.sequence_length
