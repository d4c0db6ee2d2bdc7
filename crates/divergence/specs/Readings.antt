-- What each reading answers, and what the lent outputs hold afterwards. The checks come in this order: tables, priors, the tracker's form, then the
-- reading itself on a list of nodes. `form` is 9 where the tracker's form is broken, else 0; `layer` is the number of scales below the floor. Assumes nothing.
use Rattle.std.specs.Prelude.{ℕ, ◌+◌, ◌*◌, ◌/◌, min, cond, List, [], ◌∷◌, ◌++◌, map, length, drop, nat_lt, Float}
use mathlib.Core.List.{flat_map}
use Rattle.std.specs.Prelude.{Option, None, Some, Result, Ok, Err}
use Rattle.priors.specs.Address.{address_of, address_bytes}
use Rattle.priors.specs.Rows.{keys}
use Rattle.priors.specs.Tables.{tables_refusal}
use Rattle.priors.specs.Priors.{Counts, total, prior_of, priors_refusal}
use Rattle.book.specs.declared.trackers.Tracker.{Tracker}
use Rattle.entries.specs.Entries.{rows}
use Rattle.book.specs.Form.{in_form}
use Rattle.book.specs.Figures.{in_window}
use Rattle.priors.specs.declared.refusals.NodeReason.{NodeReason}
use Rattle.priors.specs.declared.refusals.NodeReason.TheVariants.{MissingChild, PastTable}
use Rattle.divergence.specs.declared.statistics.KLDivergenceStats.{KLDivergenceStats}
use Rattle.divergence.specs.Nodes.{Node, listed_nodes, evidence_of}
use Rattle.divergence.specs.Probability.{figures_of, prob_vector, evidence_prob_vector}
use Rattle.divergence.specs.Divergence.{node_divergence}
use Rattle.divergence.specs.Statistics.{Place, Walk, stopped, walked, walk, no_stats, stats_over}
-- an answer: a refusal, none, or the answer itself; its parts; a check before it
pub use Rattle.priors.specs.Reading.{Reading, refused, nothing, answered, written, mapped, unless}

-- the tracker's form: 9 where it is broken
abbrev pub form_refusal : Tracker → List ℕ → List ℕ → ℕ
form_refusal t book queue = cond (in_form t book queue) 0 9

-- the nodes that a tracker lists
abbrev pub nodes_of : Tracker → List ℕ → List Node
nodes_of t book = listed_nodes (rows book t.used)

-- the number of paths in the window part
abbrev pub sequence_len : Tracker → ℕ
sequence_len t = in_window t.window t.accepted

-- ---- outputs: a place is an address, 8 bytes in one slice, and a figure in the other

-- the slice with fewer whole places decides
abbrev pub room : List ℕ → List Float → ℕ
room addresses figures = min (length addresses / 8) (length figures)

-- an answer fills places from 0 up; places past it keep what they held
unfoldable pub filled_addresses : List ℕ → List ℕ → List ℕ
filled_addresses ranks addresses = flat_map address_bytes ranks ++ drop (8 * length ranks) addresses

unfoldable pub filled_figures : List Float → List Float → List Float
filled_figures values figures = values ++ drop (length values) figures

-- 13: the output holds fewer places than the answer
abbrev pub fitting : {X : Type 0} → ℕ → ℕ → Reading X → Reading X
fitting places have r = cond (nat_lt have places) (refused 13 None) r

-- ---- `prob_vector` and `evidence_prob_vector`: the counts whose figures fill the output

abbrev pub vector_reading : ℕ → Option Counts → Reading Counts
vector_reading have None = nothing
vector_reading have (Some c) = fitting (length c.children) have (answered c)

-- on a list of nodes
unfoldable pub prob_reading : ℕ → List ℕ → List ℕ → ℕ → List Node → ℕ → ℕ → Reading Counts
prob_reading form nodes children layer ns rank have =
    unless (priors_refusal nodes children layer) (unless form (vector_reading have (prob_vector (prior_of nodes children layer rank) (evidence_of rank ns))))

unfoldable pub evidence_reading : ℕ → List Node → ℕ → ℕ → Reading Counts
evidence_reading form ns rank have = unless form (vector_reading have (evidence_prob_vector (evidence_of rank ns)))

-- the children fill the output, ascending
abbrev pub vector_addresses : Reading Counts → List ℕ → List ℕ
vector_addresses r addresses = written (λ (c : Counts). filled_addresses (keys c.children) addresses) r addresses

abbrev pub vector_figures : Reading Counts → List Float → List Float
vector_figures r figures = written (λ (c : Counts). filled_figures (figures_of (total c) c.children) figures) r figures

-- ---- `posterior_kl_divergence`

abbrev pub divergence_reading : ℕ → Result (Option Float) NodeReason → Reading Float
divergence_reading rank (Ok (Some x)) = answered x
divergence_reading rank (Ok None) = nothing
divergence_reading rank (Err MissingChild) = refused 14 (Some (address_of rank))
divergence_reading rank (Err PastTable) = refused 15 (Some (address_of rank))

abbrev pub of_listed : List Float → List Float → List ℕ → List ℕ → ℕ → ℕ → Option Counts → Reading Float
of_listed G D nodes children layer rank None = nothing
of_listed G D nodes children layer rank (Some e) = divergence_reading rank (node_divergence G D (prior_of nodes children layer rank) e)

unfoldable pub kl_reading : ℕ → List Float → List Float → List ℕ → List ℕ → ℕ → List Node → ℕ → Reading Float
kl_reading form G D nodes children layer ns rank =
    unless (tables_refusal G D) (unless (priors_refusal nodes children layer) (unless form (of_listed G D nodes children layer rank (evidence_of rank ns))))

-- ---- `all_node_kl`: places for the nodes that have a prior, and the number skipped

pub record Divergences : Type 0 where
  pub places : List Place
  pub skipped : ℕ

abbrev pub has_prior : Option Counts → ℕ
has_prior None = 0
has_prior (Some p) = 1

-- how many listed nodes have a prior: the size of the answer, also where 14 or 15 would end it
unfoldable pub with_prior : List ℕ → List ℕ → ℕ → List Node → ℕ
with_prior nodes children layer [] = 0
with_prior nodes children layer (n ∷ ns) = has_prior (prior_of nodes children layer n.address) + with_prior nodes children layer ns

abbrev pub walk_reading : Walk → Reading Divergences
walk_reading (stopped n node) = refused n (Some (address_of node))
walk_reading (walked ps k) = answered (record { places = ps; skipped = k })

-- the reading past the checks before it
abbrev pub all_listed : List Float → List Float → List ℕ → List ℕ → ℕ → List Node → ℕ → Reading Divergences
all_listed G D nodes children layer ns have = fitting (with_prior nodes children layer ns) have (walk_reading (walk G D nodes children layer ns))

unfoldable pub all_reading : ℕ → List Float → List Float → List ℕ → List ℕ → ℕ → List Node → ℕ → Reading Divergences
all_reading form G D nodes children layer ns have =
    unless (tables_refusal G D) (unless (priors_refusal nodes children layer) (unless form (all_listed G D nodes children layer ns have)))

-- the nodes of places, and their divergences
abbrev pub ranks_of : List Place → List ℕ
ranks_of ps = map (λ (p : Place). p.address) ps

abbrev pub values_of : List Place → List Float
values_of ps = map (λ (p : Place). p.value) ps

-- the nodes fill the output, ascending
abbrev pub all_addresses : Reading Divergences → List ℕ → List ℕ
all_addresses r addresses = written (λ (a : Divergences). filled_addresses (ranks_of a.places) addresses) r addresses

abbrev pub all_figures : Reading Divergences → List Float → List Float
all_figures r figures = written (λ (a : Divergences). filled_figures (values_of a.places) figures) r figures

-- ---- `kl_div_stats`

pub record Statistics : Type 0 where
  pub stats : KLDivergenceStats
  pub skipped : ℕ

abbrev pub stats_reading_of : ℕ → Walk → Reading Statistics
stats_reading_of sequence_length (stopped n node) = refused n (Some (address_of node))
stats_reading_of sequence_length (walked ps k) = answered (record { stats = stats_over (no_stats sequence_length) ps; skipped = k })

unfoldable pub stats_reading : ℕ → List Float → List Float → List ℕ → List ℕ → ℕ → List Node → ℕ → Reading Statistics
stats_reading form G D nodes children layer ns sequence_length =
    unless (tables_refusal G D)
    (unless (priors_refusal nodes children layer) (unless form (stats_reading_of sequence_length (walk G D nodes children layer ns))))
