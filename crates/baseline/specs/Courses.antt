-- Training path by path: what the book holds after some paths of a sequence, and what has become of the values by then. The contracts of training's inner functions
-- cite these. Assumes nothing.
use Rattle.std.specs.Prelude.{ℕ, zero, suc, ◌+◌, ◌*◌, ◌/◌, ◌%◌, ◌≤◌, ◌≡◌, true, cond, List, [], ◌∷◌, ◌++◌, eqb, length, Float}
use Rattle.std.specs.Prelude.{Result, Ok, Err}
use Rattle.priors.specs.declared.refusals.Refusal.{Refusal}
use Rattle.priors.specs.declared.refusals.Reason.{Reason}
use Rattle.priors.specs.Rows.{Row}
use Rattle.priors.specs.Refusals.{reason_number, number_of, named_node}
use Rattle.priors.specs.Priors.{layer_of}
use Rattle.priors.specs.Layer.{floor_of}
use Rattle.entries.specs.Limits.{entry_size}
use Rattle.entries.specs.Entries.{rows}
use Rattle.book.specs.Path.{Steps, path_of}
use Rattle.book.specs.Form.{book_fits}
use Rattle.book.specs.Recount.{rows_of}
use Rattle.book.specs.Figures.{AllWhole, AllRanks}
use Rattle.book.specs.Claims.{Recount, add_refusal}
use Rattle.book.specs.Batches.{path_in}
use Rattle.divergence.specs.Nodes.{listed_nodes}
use Rattle.divergence.specs.Statistics.{walk}
use Rattle.divergence.specs.Readings.{stats_reading_of}
use Rattle.divergence.specs.declared.statistics.KLDivergenceStats.{KLDivergenceStats}
use Rattle.baseline.specs.Sums.{added, sums_at, put_sums}
use Rattle.baseline.specs.Training.{Lent, lent_of, Input, Until, stopped, reached, recorded, recount_stats, unless_stopped, add_records, add_all}
use Rattle.baseline.specs.declared.training.Training.{Training}

-- ---- what is lent

-- what the code holds of it, once tables, priors and sequences passed
abbrev pub lent_in : Training → Lent
lent_in t = lent_of t.by.tables.g.now t.by.tables.d.now t.by.priors.nodes.now t.by.priors.children.now (floor_of t.by.priors.layer) t.sequences.places.now t.sequences.rate

abbrev pub input_in : Training → Input
input_in t = record { lent = lent_in t; s = t.sequences.count; n = t.sequences.paths }

-- ---- the book

-- the first i paths of a sequence, whose first path lies in the place numbered `first`
unfoldable pub paths_of : List ℕ → ℕ → ℕ → List Steps
paths_of sequences first zero = []
paths_of sequences first (suc i) = paths_of sequences first i ++ path_of (path_in sequences (first + i)) ∷ []

-- their recount, with a book of this size
abbrev pub recount_of : List ℕ → ℕ → ℕ → ℕ → Recount
recount_of sequences first i book_size = record { window = 0; paths = paths_of sequences first i; base = 0; book_size = book_size; queue_size = 0 }

-- the book holds them in its first entries
pub record Holds (sequences : List ℕ) (first i : ℕ) (book : List ℕ) (used : ℕ) : Type 0 where
  pub book_sized : book_fits book ≡ true
  pub used_fit : entry_size * used ≤ length book
  pub rows_are : rows book used ≡ rows_of 0 (paths_of sequences first i) (paths_of sequences first i)
  pub whole : AllWhole (paths_of sequences first i)
  pub ranks : AllRanks (paths_of sequences first i)

-- the number that the recount gives the path numbered i
abbrev pub path_number : List ℕ → ℕ → ℕ → ℕ → ℕ
path_number sequences first i book_size = add_refusal (recount_of sequences first i book_size) (path_in sequences (first + i))

-- the path numbered i is added, or the recount's number says why not
abbrev pub Added : List ℕ → ℕ → ℕ → List ℕ → ℕ → Result (Unit {0}) Reason → Type 0
Added sequences first i book used (Ok x) = (path_number sequences first i (length book) ≡ 0) × Holds sequences first (suc i) book used
Added sequences first i book used (Err r) = path_number sequences first i (length book) ≡ reason_number r

-- ---- the values

-- statistics that are reached enter the knot numbered k
abbrev pub at_knot : ℕ → Until KLDivergenceStats → List Float → Until (List Float)
at_knot k (stopped n node) values = stopped n node
at_knot k (reached r) values = reached (put_sums values k (added (sums_at values k) r))

-- after the path numbered i, where i mod rate is 0, the statistics go to the knot numbered i / rate
abbrev pub sampled : ℕ → ℕ → Until KLDivergenceStats → List Float → Until (List Float)
sampled rate i q values = cond (eqb (i % rate) 0) (at_knot (i / rate) q values) (reached values)

-- the statistics that a book's entries give against accepted tables and priors, after so many paths
unfoldable pub book_stats : Lent → List Row → ℕ → Until KLDivergenceStats
book_stats x rs paths = recorded (stats_reading_of paths (walk x.G x.D x.nodes x.children (layer_of x.floor) (listed_nodes rs)))

-- what the path numbered i makes of the values
unfoldable pub one_path : Lent → ℕ → ℕ → ℕ → List Float → Until (List Float)
one_path x first i book_size values =
    unless_stopped (path_number x.sequences first i book_size) (sampled x.rate i (recount_stats x (recount_of x.sequences first (suc i) book_size)) values)

-- what the records of a sequence, from the knot numbered k on, make of the values
abbrev pub entered : ℕ → Until (List KLDivergenceStats) → List Float → Until (List Float)
entered k (stopped n node) values = stopped n node
entered k (reached rs) values = reached (add_records k rs values)

-- and what those of all sequences do
abbrev pub all_entered : Until (List (List KLDivergenceStats)) → List Float → Until (List Float)
all_entered (stopped n node) values = stopped n node
all_entered (reached rss) values = reached (add_all rss values)

-- a function's answer, and the values that it leaves
abbrev pub ended : Result (Unit {0}) Refusal → List Float → Until (List Float)
ended (Ok x) values = reached values
ended (Err r) values = stopped (number_of r) (named_node r)

-- the path numbered i is added and its statistics are in the values, or the refusal is the first that there is
abbrev pub Went : Lent → ℕ → ℕ → List ℕ → ℕ → List Float → List Float → Result (Unit {0}) Refusal → Type 0
Went x first i book used before after (Ok u) = (one_path x first i (length book) before ≡ reached after) × Holds x.sequences first (suc i) book used
Went x first i book used before after (Err r) = one_path x first i (length book) before ≡ stopped (number_of r) (named_node r)
