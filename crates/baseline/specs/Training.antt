-- Training: for each sequence the recount opens with W 0 and the lent book's capacity and adds the paths; what `kl_div_stats` gives it at each sampled prefix is
-- brought to the knots. The first 10, 12, 14 or 15 that the recount gets stops it. Assumes nothing.
use Rattle.std.specs.Prelude.{ℕ, zero, suc, ◌+◌, ◌-◌, ◌*◌, ◌/◌, ◌%◌, min, Bool, cond, ◌&&◌, List, [], ◌∷◌, ◌++◌, eqb, leb, length, drop, replicate, Float, ℤ}
use Rattle.std.specs.Prelude.{Option, None, Result, Ok, Err}
use Rattle.priors.specs.declared.addresses.Address.{Address}
use Rattle.priors.specs.declared.refusals.Refusal.{Refusal}
use Rattle.priors.specs.Below.{list_of}
use Rattle.priors.specs.Rules.{rule, first_broken}
use Rattle.priors.specs.Refusals.{number_of, named_node}
use Rattle.priors.specs.Tables.{lent_tables, tables_refusal}
use Rattle.priors.specs.Priors.{lent_priors, layer_of, priors_refusal}
use Rattle.entries.specs.Limits.{place_size}
use Rattle.book.specs.Path.{path_of}
use Rattle.book.specs.Form.{book_fits}
use Rattle.book.specs.Calls.{zeros}
use Rattle.book.specs.Batches.{path_in}
use Rattle.book.specs.Claims.{Recount, since, restarted, joined, add_refusal}
use Rattle.divergence.specs.declared.statistics.KLDivergenceStats.{KLDivergenceStats}
use Rattle.divergence.specs.Numbers.{zero64}
use Rattle.divergence.specs.Readings.{Reading, refused, nothing, answered, Statistics}
use Rattle.divergence.specs.Asked.{stats_asked}
use Rattle.divergence.specs.Claims.{recount_seen}
use Rattle.divergence.specs.Checks.{or_else}
use Rattle.baseline.specs.Limits.{max_sequences, max_paths, max_knots, knot_values}
use Rattle.baseline.specs.Sums.{added, sums_at, put_sums}

-- what each path of a training is held against: tables, priors, the sequences' bytes and the rate
pub record Lent : Type 0 where
  pub G : List Float
  pub D : List Float
  pub nodes : List ℕ
  pub children : List ℕ
  pub floor : ℤ
  pub sequences : List ℕ
  pub rate : ℕ

-- what a training is lent beside its book and its baseline: s sequences of n paths as queue places, one sequence after the other
pub record Input : Type 0 where
  pub lent : Lent
  pub s : ℕ
  pub n : ℕ

-- these from a call's arguments
abbrev pub lent_of : List Float → List Float → List ℕ → List ℕ → ℤ → List ℕ → ℕ → Lent
lent_of G D nodes children floor sequences rate = record { G = G; D = D; nodes = nodes; children = children; floor = floor; sequences = sequences; rate = rate }

abbrev pub input_of : List Float → List Float → List ℕ → List ℕ → ℤ → List ℕ → ℕ → ℕ → ℕ → Input
input_of G D nodes children floor sequences s n rate = record { lent = lent_of G D nodes children floor sequences rate; s = s; n = n }

-- ---- the numbers before the work

-- how many i below n have i mod rate = 0: n / rate, rounded up
abbrev pub knot_count : ℕ → ℕ → ℕ
knot_count n rate = (n + (rate - 1)) / rate

-- 16: rate 0; s, n or byte count wrong; over 1,024 knots
unfoldable pub input_fits : List ℕ → ℕ → ℕ → ℕ → Bool
input_fits sequences s n rate =
    leb 1 rate
    && (leb 1 s
    && (leb s max_sequences
    && (leb n max_paths
    && (eqb (length sequences) (place_size * (s * n)) && leb (knot_count n rate) max_knots))))

-- 13 tests whichever slice holds fewer whole knots
abbrev pub knot_room : List ℕ → List Float → ℕ
knot_room knots values = min (length knots) (length values / knot_values)

-- 9 for the book's size alone, 16, 13
unfoldable pub sizes_refusal : List ℕ → ℕ → ℕ → ℕ → List ℕ → ℕ → ℕ
sizes_refusal sequences s n rate book have =
    first_broken (rule 9 (book_fits book) ∷ rule 16 (input_fits sequences s n rate) ∷ rule 13 (leb (knot_count n rate) have) ∷ [])

-- after tables and priors
unfoldable pub train_refusal : Input → List ℕ → List ℕ → List Float → ℕ
train_refusal x book knots values =
    or_else
    (tables_refusal x.lent.G x.lent.D)
    (or_else
    (priors_refusal x.lent.nodes x.lent.children (layer_of x.lent.floor))
    (sizes_refusal x.lent.sequences x.s x.n x.lent.rate book (knot_room knots values)))

-- ---- the work

-- what is reached, unless a refusal stops it first; 14 and 15 name the node
pub data Until (X : Type 0) : Type 0 where
  stopped : (number : ℕ) (node : Option Address) → Until X
  reached : X → Until X

-- the first of a list, and then the others
abbrev pub and_then : {X : Type 0} → Until X → Until (List X) → Until (List X)
and_then (stopped n node) rest = stopped n node
and_then (reached x) (stopped n node) = stopped n node
and_then (reached x) (reached xs) = reached (x ∷ xs)

-- the statistics that a reading answers; `kl_div_stats` never gives none, and the second line is there because a reading has three cases
abbrev pub recorded : Reading Statistics → Until KLDivergenceStats
recorded (refused n node) = stopped n node
recorded nothing = stopped 0 None
recorded (answered a) = reached a.stats

-- `kl_div_stats` of the recount
unfoldable pub recount_stats : Lent → Recount → Until KLDivergenceStats
recount_stats x r =
    recorded (stats_asked (recount_seen r.window r.paths (since r)) (lent_tables x.G x.D) (lent_priors x.nodes x.children x.floor))

-- a path that is refused stops the training
abbrev pub unless_stopped : {X : Type 0} → ℕ → Until X → Until X
unless_stopped zero rest = rest
unless_stopped (suc n) rest = stopped (suc n) None

-- the records of m paths of a sequence, the first of which has the number i and lies in the place numbered first + i; r is the recount of those before
unfoldable pub records_from : Lent → ℕ → Recount → ℕ → ℕ → Until (List KLDivergenceStats)
records_from x first r i zero = reached []
records_from x first r i (suc m) =
    let path = path_in x.sequences (first + i) in
    let after = joined r (path_of path) in
    let rest = records_from x first after (suc i) m in
    unless_stopped (add_refusal r path) (cond (eqb (i % x.rate) 0) (and_then (recount_stats x after) rest) rest)

-- the records of the sequence numbered q
unfoldable pub sequence_records : Input → ℕ → ℕ → Until (List KLDivergenceStats)
sequence_records x book_size q = records_from x.lent (q * x.n) (restarted 0 book_size 0) 0 x.n

-- those of m sequences from q on
unfoldable pub all_records : Input → ℕ → ℕ → ℕ → Until (List (List KLDivergenceStats))
all_records x book_size q zero = reached []
all_records x book_size q (suc m) = and_then (sequence_records x book_size q) (all_records x book_size (suc q) m)

-- ---- the baseline

-- a sequence's records enter the knots in turn, from the knot numbered k on
unfoldable pub add_records : ℕ → List KLDivergenceStats → List Float → List Float
add_records k [] values = values
add_records k (r ∷ rs) values = add_records (suc k) rs (put_sums values k (added (sums_at values k) r))

-- in order of sequences
unfoldable pub add_all : List (List KLDivergenceStats) → List Float → List Float
add_all [] values = values
add_all (rs ∷ rss) values = add_all rss (add_records 0 rs values)

-- sums start at 0; values past the last knot keep what they held
abbrev pub started : ℕ → List Float → List Float
started count values = replicate (knot_values * count) zero64 ++ drop (knot_values * count) values

-- the knot numbered k stands for the sequence length i + 1, where i = k × rate
abbrev pub knot_lengths : ℕ → ℕ → List ℕ
knot_lengths count rate = list_of count (λ k. k * rate + 1)

-- ---- what `train` answers and leaves

abbrev pub course : Input → List ℕ → Until (List (List KLDivergenceStats))
course x book = all_records x (length book) 0 x.s

-- how many knots there are
abbrev pub knots_of : Input → ℕ
knots_of x = knot_count x.n x.lent.rate

-- by the number before the work, 0 for none, and by how the work ends
abbrev pub trained_reading : ℕ → ℕ → Until (List (List KLDivergenceStats)) → Reading ℕ
trained_reading zero count (stopped n node) = refused n node
trained_reading zero count (reached rss) = answered count
trained_reading (suc n) count u = refused (suc n) None

-- the book is all zero when training ends, stopped or not; refused before the work, it is as it was
abbrev pub book_left : ℕ → List ℕ → List ℕ
book_left zero book = zeros (length book)
book_left (suc n) book = book

abbrev pub knots_left : ℕ → ℕ → ℕ → Until (List (List KLDivergenceStats)) → List ℕ → List ℕ
knots_left zero count rate (stopped n at) knots = zeros (length knots)
knots_left zero count rate (reached rss) knots = knot_lengths count rate ++ drop count knots
knots_left (suc n) count rate u knots = knots

abbrev pub values_left : ℕ → ℕ → Until (List (List KLDivergenceStats)) → List Float → List Float
values_left zero count (stopped n at) values = replicate (length values) zero64
values_left zero count (reached rss) values = add_all rss (started count values)
values_left (suc n) count u values = values

-- what `train` answers and leaves: its answer, the number of knots, and the lent book, knots and values afterwards
pub record TrainAnswer : Type 0 where
  pub answer : Reading ℕ
  pub book : List ℕ
  pub knots : List ℕ
  pub values : List Float

unfoldable pub train_asked : Input → List ℕ → List ℕ → List Float → TrainAnswer
train_asked x book knots values =
    let n = train_refusal x book knots values in
    record {
      answer = trained_reading n (knots_of x) (course x book);
      book = book_left n book;
      knots = knots_left n (knots_of x) x.lent.rate (course x book) knots;
      values = values_left n (knots_of x) (course x book) values;
    }

-- what an answer of the code stands for
abbrev pub train_answer : Result ℕ Refusal → Reading ℕ
train_answer (Ok count) = answered count
train_answer (Err r) = refused (number_of r) (named_node r)

-- with what it leaves
abbrev pub train_told : Result ℕ Refusal → List ℕ → List ℕ → List Float → TrainAnswer
train_told a book knots values = record { answer = train_answer a; book = book; knots = knots; values = values }
