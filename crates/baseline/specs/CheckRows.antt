-- The kit's check rows marked *, rows with a floor and of a child's look-up, and where minus zero comes out of `stats` and where it does not: each row is an
-- equation about the definitions that the functions' contracts cite, figures by `≡`, and one proof shows that all hold. Assumes nothing.
use Rattle.std.specs.Prelude.{◌≡◌, refl, ℕ, ◌+◌, ◌-◌, ◌*◌, ℤ, pos, negsuc, length, Float}
use mathlib.Core.List.{List, [], ◌∷◌, ◌++◌, map, flat_map}
use Rattle.std.specs.Prelude.{Option, None, Some}
use Rattle.std.specs.Float.{binary64}
use Rattle.std.specs.Float.Ieee.{add, sub, mul, div, le, of_int, of_bits}
use Rattle.priors.specs.Below.{all_below, list_of}
use Rattle.priors.specs.Word.{word, word_bytes, store}
use Rattle.priors.specs.Address.{lift, rank, address_of}
use Rattle.priors.specs.Rows.{row, change, count_of}
use Rattle.priors.specs.Tables as Tables
use Rattle.priors.specs.Tables.{LentTables, lent_tables}
use Rattle.priors.specs.Floors.{least_floor}
use Rattle.priors.specs.Priors.{LentPriors, lent_priors, layer_of, Counts, priors_refusal}
use Rattle.priors.specs.Priors as Priors
use Rattle.priors.specs.Children as Children
use Rattle.priors.specs.Children.{ChildLook, child_asked}
use Rattle.entries.specs.Keys.{key_of, end_key, child_key, node_of, kind_of, child_of}
use Rattle.entries.specs.Entries as Entries
use Rattle.book.specs.Path.{steps_of, whole_path, listed_keys, counted_keys}
use Rattle.book.specs.Form as Form
use Rattle.book.specs.Changes.{change_all, add_rows}
use Rattle.book.specs.Calls as Calls
use Rattle.book.specs.Calls.{Machine, zeros, fresh, add_number}
use Rattle.book.specs.Figures as Paths
use Rattle.book.specs.Recount as Recount
use Rattle.book.specs.Claims as Claims
use Rattle.book.specs.Claims.{opening, add as adding, book_step, runs}
use Rattle.divergence.specs.Numbers.{fdiv, flt, zero64, minus_zero64}
use Rattle.divergence.specs.Nodes.{spread, listed_nodes, evidence_of}
use Rattle.divergence.specs.RecountNodes as RecountNodes
use Rattle.divergence.specs.Divergence as Divergence
use Rattle.divergence.specs.Statistics as Walks
use Rattle.divergence.specs.Statistics.{no_stats}
use Rattle.divergence.specs.Probability as Probability
use Rattle.divergence.specs.Readings as Readings
use Rattle.divergence.specs.Readings.{Reading, refused, nothing, answered, mapped, Statistics, nodes_of}
use Rattle.divergence.specs.Answers.{VectorResult, AllResult}
use Rattle.divergence.specs.Asked.{Seen, seen_of, Output, lent_output, Telling, prob_asked, evidence_asked, kl_asked, all_asked, stats_asked}
use Rattle.divergence.specs.declared.statistics.KLDivergenceStats.{KLDivergenceStats}
use Rattle.baseline.specs.declared.figures.MeanVar.{MeanVar}
use Rattle.baseline.specs.declared.five.Five.{Five}
use Rattle.baseline.specs.Sums.{added, sums_at, put_sums}
use Rattle.book.specs.Batches as Batches
use Rattle.baseline.specs.Training as Training
use Rattle.baseline.specs.Training.{TrainAnswer, input_of, add_all, started, train_asked}
use Rattle.baseline.specs.Figures.{to_mean_var, interpolated}
use Rattle.baseline.specs.Stats.{not_above, knot_figures, line_figures, figures_after, figures_at, rises_at, rising, baseline_fits, past_one_knot, stats_refusal, baseline_reading}

-- ---- a tracker

-- G(k) = k × k and D(k) = 4k, up to the index `last`
abbrev pub table_g : ℕ → List Float
table_g last = list_of (last + 1) (λ k. flt (k * k))

abbrev pub table_d : ℕ → List Float
table_d last = list_of (last + 1) (λ k. flt (4 * k))

-- the address with these bits of a scale
abbrev pub address_on : ℕ → ℕ → List ℕ
address_on scale point = word_bytes scale ++ word_bytes point

-- prior (1,7): singleton 1, (0,7) 2, (0,9) 3
abbrev pub nodes : List ℕ
nodes = address_on 1 7 ++ (word_bytes 1 ++ word_bytes 1)

abbrev pub children : List ℕ
children = address_on 0 7 ++ (word_bytes 2 ++ (word_bytes 2 ++ (address_on 0 9 ++ (word_bytes 3 ++ word_bytes 0))))

-- window 1 and a book of so many entries, and then these paths
abbrev pub tracker : ℕ → List (List ℕ) → Machine
tracker entries paths =
    (runs book_step (record { state = fresh 0; book = []; queue = [] }) (opening 1 (zeros (24 * entries)) (zeros 516) ∷ map adding paths)).1

-- the first path, (1,7),(0,9), and the second, (1,7)
abbrev pub first : List ℕ
first = address_on 1 7 ++ address_on 0 9

abbrev pub second : List ℕ
second = address_on 1 7

-- the same record at (-5,7), and a path that begins at (-4,7) instead
abbrev pub fine_nodes : List ℕ
fine_nodes = address_on 4294967291 7 ++ (word_bytes 1 ++ word_bytes 1)

abbrev pub fine_path : List ℕ
fine_path = address_on 4294967292 7 ++ address_on 0 9

-- what is told with a floor
abbrev pub stats_under : ℤ → Reading Statistics
stats_under floor =
    let m = tracker 3 (fine_path ∷ []) in
    stats_asked (seen_of m.state m.book m.queue) (lent_tables (table_g 7) (table_d 7)) (lent_priors fine_nodes children floor)

-- the number of priors that have a record at (-4,7), too
abbrev pub two_under : ℤ → ℕ
two_under floor = priors_refusal (fine_nodes ++ (address_on 4294967292 7 ++ (word_bytes 1 ++ word_bytes 1))) children (layer_of floor)

-- a child of a node in the first priors, and in those whose node has no children
abbrev pub child_of_node : ℕ → ℕ → Reading ChildLook
child_of_node node child = child_asked (lent_priors nodes children least_floor) node child

abbrev pub child_of_leaf : ℕ → Reading ChildLook
child_of_leaf child = child_asked (lent_priors (address_on 1 7 ++ (word_bytes 1 ++ word_bytes 0)) [] least_floor) (rank 1 7) child

abbrev pub looked : Option ℕ → ℕ → Reading ChildLook
looked count read = answered (record { count = count; read = read })

-- an output of three places, with 5 in every byte and every figure
abbrev pub fives : Output
fives = lent_output (list_of 24 (λ k. 5)) (list_of 3 (λ k. flt 5))

-- what a tracker's readings tell, with tables up to 7 where no other end is named
module _ (m : Machine) where
  abbrev seen : Seen
  seen = seen_of m.state m.book m.queue

  abbrev tables : ℕ → LentTables
  tables last = lent_tables (table_g last) (table_d last)

  abbrev priors : LentPriors
  priors = lent_priors nodes children least_floor

  abbrev pub kl : ℕ → ℕ → Reading Float
  kl last at = kl_asked seen (tables last) priors at

  abbrev pub all_kl : Telling AllResult
  all_kl = all_asked seen (tables 7) priors fives

  abbrev pub kl_stats : Reading Statistics
  kl_stats = stats_asked seen (tables 7) priors

  abbrev pub evidence : ℕ → Option Counts
  evidence at = evidence_of at (nodes_of m.state m.book)

  abbrev pub probabilities : ℕ → Telling VectorResult
  probabilities at = prob_asked seen priors at fives

  abbrev pub evidence_only : ℕ → Telling VectorResult
  evidence_only at = evidence_asked seen at fives

-- the number of the first add
abbrev pub first_add : ℕ → ℕ
first_add entries = let m = tracker entries [] in add_number m.state m.book m.queue first

-- ---- a baseline

-- a path as a place of a sequence: its length, its steps, and after these bytes that are not read
abbrev pub place_of : List ℕ → ℕ → List ℕ
place_of path steps = word_bytes steps ++ (path ++ list_of (512 - length path) (λ k. 5))

-- trained on two sequences, the first path and the second, with one knot
abbrev pub trained : TrainAnswer
trained = train_asked (input_of (table_g 7) (table_d 7) nodes children least_floor (place_of first 2 ++ place_of second 1) 2 1 1) (zeros 72) (zeros 1) (list_of 10 (λ k. flt 5))

-- a record whose maximum alone matters
abbrev pub maximum : ℕ → KLDivergenceStats
maximum x = record { max = flt x; min = zero64; nz_count = 0; moment1_nz = zero64; moment2_nz = zero64; sequence_len = 1 }

-- a knot's values after training on sequences of one record each
abbrev pub knot_over : List KLDivergenceStats → List Float
knot_over records = add_all (map (λ (r : KLDivergenceStats). r ∷ []) records) (started 1 [])

-- one sequence, with the means 8 at 1 and 10 at 11
abbrev pub two_knots : ℕ → Reading (Five MeanVar)
two_knots i = baseline_reading (1 ∷ 11 ∷ []) (knot_over (maximum 8 ∷ []) ++ knot_over (maximum 10 ∷ [])) 1 i

-- one sequence, with one knot at 1
abbrev pub one_knot : ℕ → Reading (Five MeanVar)
one_knot i = baseline_reading (1 ∷ []) (knot_over (maximum 8 ∷ [])) 1 i

-- a record of one divergence, after one path
abbrev pub of_one : ℕ → KLDivergenceStats
of_one x = record { max = flt x; min = flt x; nz_count = 1; moment1_nz = flt x; moment2_nz = flt (x * x); sequence_len = 1 }

-- mean and variance of the maxima
abbrev pub maxima_of : Reading (Five MeanVar) → Reading MeanVar
maxima_of r = mapped (λ (f : Five MeanVar). f.max) r

abbrev pub mean_and : Float → Float → MeanVar
mean_and mean variance = record { mean = mean; variance = variance }

-- ---- baselines that are lent

-- the figure next below 0, -5e-324
abbrev pub next_below : Float
next_below = of_bits binary64 0x8000_0000_0000_0001

-- a knot's values: of all five figures this sum and these squares
abbrev pub knot_of : Float → Float → List Float
knot_of sum squares = flat_map (λ (k : ℕ). sum ∷ squares ∷ []) (list_of 5 (λ k. k))

-- all five figures alike
abbrev pub alike : Float → Float → Reading (Five MeanVar)
alike mean variance =
    let p = mean_and mean variance in
    answered (record { max = p; min = p; nz_count = p; moment1_nz = p; moment2_nz = p })

-- at the one knot of s sequences
abbrev pub at_knot : Float → Float → ℕ → Reading (Five MeanVar)
at_knot sum squares s = baseline_reading (1 ∷ []) (knot_of sum squares) s 1

-- of one sequence, with two knots at 1 and 5
abbrev pub along_knots : List Float → List Float → ℕ → Reading (Five MeanVar)
along_knots left right i = baseline_reading (1 ∷ 5 ∷ []) (left ++ right) 1 i

-- ---- the rows

abbrev pub Rows : Type 0
Rows =
    -- add (1,7),(0,9): divergence 6, one skipped, moments 6 and 36
    (kl (tracker 3 (first ∷ [])) 7 (rank 1 7) ≡ answered (flt 6))
    × (all_kl (tracker 3 (first ∷ []))
    ≡ record { answer = answered (record { places = 1; skipped = 1 }); output = lent_output (address_on 1 7 ++ list_of 16 (λ k. 5)) (flt 6 ∷ flt 5 ∷ flt 5 ∷ []) })
    × (kl_stats (tracker 3 (first ∷ [])) ≡ answered (record { stats = of_one 6; skipped = 1 }))
    -- then add (1,7): ending 1, (0,9) stays with 0, divergence 10, length 1
    × (evidence (tracker 3 (first ∷ second ∷ [])) (rank 1 7) ≡ Some (record { ending = 1; children = row (rank 0 9) 0 ∷ [] }))
    × (evidence (tracker 3 (first ∷ second ∷ [])) (rank 0 9) ≡ Some (record { ending = 0; children = [] }))
    × (kl (tracker 3 (first ∷ second ∷ [])) 7 (rank 1 7) ≡ answered (flt 10))
    × (kl_stats (tracker 3 (first ∷ second ∷ [])) ≡ answered (record { stats = of_one 10; skipped = 1 }))
    -- probabilities then 2/7, 3/7, ending 2/7; evidence of (0,9): none
    × (probabilities (tracker 3 (first ∷ second ∷ [])) (rank 1 7)
    ≡ record { answer = answered (record { places = 2; ending = fdiv (flt 2) (flt 7) }); output = lent_output (address_on 0 7 ++ (address_on 0 9 ++ list_of 8 (λ k. 5))) (fdiv (flt 2) (flt 7) ∷ fdiv (flt 3) (flt 7) ∷ flt 5 ∷ []) })
    × (evidence_only (tracker 3 (first ∷ second ∷ [])) (rank 0 9) ≡ record { answer = nothing; output = fives })
    -- tables ending at 6: 15, of the node (1,7)
    × (kl (tracker 3 (first ∷ second ∷ [])) 6 (rank 1 7) ≡ refused 15 (Some (record { scale = pos 1; point = 7 })))
    -- the record at (-5,7) and the path (-4,7),(0,9): with floor -3 divergence 6, one skipped; with floor -4 both skipped
    × (stats_under (negsuc 2) ≡ answered (record { stats = of_one 6; skipped = 1 }))
    × (stats_under (negsuc 3) ≡ answered (record { stats = no_stats 1; skipped = 2 }))
    -- records at (-5,7) and (-4,7): 22 with floor -3, none with floor -4
    × (two_under (negsuc 2) ≡ 22)
    × (two_under (negsuc 3) ≡ 0)
    -- children of (1,7), count and records read: of (0,7) 2 and 1, of (0,9) 3 and 2; of (-1,9), before the first, none and 1; of (0,8), between, and of (1,0),
    -- past the last, none and 2
    × (child_of_node (rank 1 7) (rank 0 7) ≡ looked (Some 2) 1)
    × (child_of_node (rank 1 7) (rank 0 9) ≡ looked (Some 3) 2)
    × (child_of_node (rank 1 7) (rank 4294967295 9) ≡ looked None 1)
    × (child_of_node (rank 1 7) (rank 0 8) ≡ looked None 2)
    × (child_of_node (rank 1 7) (rank 1 0) ≡ looked None 2)
    -- none and 0: in an empty chain, and where the node has no prior
    × (child_of_leaf (rank 0 7) ≡ looked None 0)
    × (child_of_node (rank 0 9) (rank 0 7) ≡ looked None 0)
    -- first add, book of two entries: 12; of three: taken
    × (first_add 2 ≡ 12)
    × (first_add 3 ≡ 0)
    -- two sequences, maxima 6 and 10: mean 8, variance 4
    × (maxima_of (baseline_reading trained.knots trained.values 2 1) ≡ answered (mean_and (flt 8) (flt 4)))
    -- means 8 at 1 and 10 at 11: 9 at 6, 12 at 21, 0 at 0
    × (maxima_of (two_knots 1) ≡ answered (mean_and (flt 8) zero64))
    × (maxima_of (two_knots 11) ≡ answered (mean_and (flt 10) zero64))
    × (maxima_of (two_knots 6) ≡ answered (mean_and (flt 9) zero64))
    × (maxima_of (two_knots 21) ≡ answered (mean_and (flt 12) zero64))
    × (two_knots 0 ≡ alike zero64 zero64)
    -- one knot at 1: answered at 1, 18 at 2
    × (maxima_of (one_knot 1) ≡ answered (mean_and (flt 8) zero64))
    × (one_knot 2 ≡ refused 18 None)
    -- at a knot: a sum of minus zero, or of -5e-324 over two sequences, has the mean minus zero
    × (at_knot minus_zero64 zero64 1 ≡ alike minus_zero64 zero64)
    × (at_knot next_below zero64 2 ≡ alike minus_zero64 zero64)
    -- and squares of minus zero have the variance minus zero, whichever zero the mean is
    × (at_knot zero64 minus_zero64 1 ≡ alike zero64 minus_zero64)
    × (at_knot minus_zero64 minus_zero64 1 ≡ alike minus_zero64 minus_zero64)
    -- between minus zero and -5e-324, a quarter of the way: minus zero, means and variances alike
    × (along_knots (knot_of minus_zero64 minus_zero64) (knot_of next_below next_below) 2 ≡ alike minus_zero64 minus_zero64)
    -- between two knots of minus zero, past them, and below them: plus zero
    × (along_knots (knot_of minus_zero64 minus_zero64) (knot_of minus_zero64 minus_zero64) 2 ≡ alike zero64 zero64)
    × (along_knots (knot_of minus_zero64 minus_zero64) (knot_of minus_zero64 minus_zero64) 9 ≡ alike zero64 zero64)
    × (along_knots (knot_of minus_zero64 minus_zero64) (knot_of minus_zero64 minus_zero64) 0 ≡ alike zero64 zero64)
    -- without knots: plus zero
    × (baseline_reading [] [] 1 0 ≡ alike zero64 zero64)

pub rows_hold : Rows
unfolding le word store lift rank address_of change count_of Tables.table_entries_fit Tables.entry_fits Tables.lengths_fit Tables.tables_refusal Priors.ascends Priors.ascends_after Priors.chain Priors.chain_ascends Priors.chain_fits Priors.chain_of Priors.clear_before Priors.record_count_fits Priors.count_sum Priors.find_record Priors.first_link_fits Priors.found_by Priors.next_link_fits Priors.one_point Priors.points_differ Priors.prior_of Priors.priors_refusal Priors.record_at Priors.records Priors.total Priors.total_fits Priors.whole_records Children.below_in Children.reads_of key_of end_key child_key node_of kind_of child_of Entries.bytes_of Entries.row_at Entries.key_at Entries.row_bytes Entries.rows steps_of whole_path listed_keys counted_keys Form.book_fits Form.follows Form.formed Form.formed_after Form.in_form Form.lengths_fit Form.plain Form.queue_fits Form.state_fits change_all add_rows Calls.add_book Calls.add_number Calls.add_queue Calls.add_state Calls.book_after Calls.leaving Calls.open_book Calls.open_number Calls.open_queue Calls.open_state Calls.place_bytes Calls.queue_with Calls.rows_after Calls.state_after Paths.total Paths.transitions Paths.endings Recount.window_part Recount.sequence_length Recount.enter Recount.enter_all Recount.listing Claims.add_refusal book_step runs spread listed_nodes evidence_of RecountNodes.nodes_listed RecountNodes.followers RecountNodes.children_listed RecountNodes.node_counted RecountNodes.recount_nodes Divergence.child_terms Divergence.closed Divergence.divergence Divergence.ending_term Divergence.lacks_child Divergence.no_less Divergence.node_divergence Divergence.term Walks.counted Walks.noted Walks.stats_over Walks.walk Probability.evidence_prob_vector Probability.posterior Probability.prob_vector Probability.with_evidence Probability.with_total Readings.filled_addresses Readings.filled_figures Readings.with_prior Readings.kl_reading Readings.all_reading Readings.stats_reading Readings.prob_reading Readings.evidence_reading train_asked Training.train_refusal Training.sizes_refusal Training.input_fits Batches.path_in Training.recount_stats Training.records_from Training.sequence_records Training.all_records Training.add_records add_all baseline_reading stats_refusal baseline_fits past_one_knot rising rises_at all_below figures_at figures_after not_above knot_figures line_figures to_mean_var interpolated sums_at put_sums added flat_map add sub mul div of_int of_bits
rows_hold = (refl, refl, refl, refl, refl, refl, refl, refl, refl, refl, refl, refl, refl, refl, refl, refl, refl, refl, refl, refl, refl, refl, refl, refl, refl, refl, refl, refl, refl, refl, refl, refl, refl, refl, refl, refl, refl, refl, refl, refl)
