-- Demand 3 for training. For each sequence there is a list of calls of the machine of the divergence's claim: an opening with window 0 on the lent book, an add for each
-- path, and `kl_div_stats` after each sampled one. What the machine answers to them, told up to the first refusal, is what `train` takes for that sequence's records.
-- Assumes nothing.
use Rattle.std.specs.Prelude.{ℕ, zero, suc, ◌+◌, ◌*◌, ◌%◌, ◌≤◌, ◌<◌, ◌≡◌, cond, List, [], ◌∷◌, map, eqb, length, Float, ℤ}
use Rattle.std.specs.Prelude.{None}
use Rattle.priors.specs.Tables.{lent_tables}
use Rattle.priors.specs.Priors.{lent_priors}
use Rattle.book.specs.Figures.{All}
use Rattle.book.specs.Calls.{Machine}
use Rattle.book.specs.Claims.{opening, add, open_refusal, runs}
use Rattle.book.specs.Batches.{path_in}
use Rattle.divergence.specs.declared.statistics.KLDivergenceStats.{KLDivergenceStats}
use Rattle.divergence.specs.Readings.{Reading, refused, nothing, answered}
use Rattle.divergence.specs.Corollaries.{ZeroUnread}
use Rattle.divergence.specs.Claims.{Call, change, read, kl_div_stats, Result, vector, kl, all_kl, stats, Answer, changed, told, step}
use Rattle.baseline.specs.Training.{Lent, Input, input_of, Until, stopped, reached, and_then, unless_stopped, sequence_records, knot_lengths, knots_of, train_asked}

-- m paths of a sequence, the first of which has the number i and lies in the place numbered first + i: each is added, and where i mod rate is 0 the statistics are read
unfoldable pub calls_from : Lent → ℕ → ℕ → ℕ → List Call
calls_from x first i zero = []
calls_from x first i (suc m) =
    let rest = calls_from x first (suc i) m in
    change (add (path_in x.sequences (first + i)))
    ∷ cond (eqb (i % x.rate) 0) (read (kl_div_stats (lent_tables x.G x.D) (lent_priors x.nodes x.children x.floor)) ∷ rest) rest

-- the sequence numbered q runs through a fresh window-0 tracker, which has no queue
unfoldable pub sequence_calls : Input → List ℕ → ℕ → List Call
sequence_calls x book q = change (opening 0 book []) ∷ calls_from x.lent (q * x.n) 0 x.n

-- a record that a reading tells, and then those after it; a refusal comes before them, and what is no record is passed over. Of none, which `kl_div_stats` never
-- gives, it is as with `recorded`
abbrev pub and_record : Reading Result → Until (List KLDivergenceStats) → Until (List KLDivergenceStats)
and_record (refused n node) rest = stopped n node
and_record nothing rest = stopped 0 None
and_record (answered (vector v)) rest = rest
and_record (answered (kl x)) rest = rest
and_record (answered (all_kl a)) rest = rest
and_record (answered (stats a)) rest = and_then (reached a.stats) rest

-- the records among answers, unless a refusal comes first
unfoldable pub records_in : List Answer → Until (List KLDivergenceStats)
records_in [] = reached []
records_in (changed a ∷ more) = unless_stopped a.number (records_in more)
records_in (told r outputs ∷ more) = and_record r (records_in more)

-- whatever tables, priors, sequences, rate and book there are, and whatever the machine was before
abbrev pub Claim : Type 0
Claim =
    (x : Input) (book : List ℕ) (m : Machine) → open_refusal 0 (length book) 0 ≡ 0 → All (λ b. b < 256) x.lent.sequences
    → (q : ℕ) → records_in (runs step m (sequence_calls x book q)).0 ≡ sequence_records x (length book) q

-- a sequence that nothing stops has one record for each knot, in order: the knot of sequence length i + 1 gets the statistics of the first i + 1 paths
abbrev pub RecordForEachKnot : Type 0
RecordForEachKnot =
    (x : Input) (book_size q : ℕ) (rs : List KLDivergenceStats) → 1 ≤ x.lent.rate → sequence_records x book_size q ≡ reached rs
    → map (λ (r : KLDivergenceStats). r.sequence_len) rs ≡ knot_lengths (knots_of x) x.lent.rate

-- what stands at index 0 of either table plays no part in a training, as in no reading
abbrev pub IndexZeroUnread : Type 0
IndexZeroUnread =
    (nodes children : List ℕ) (floor : ℤ) (sequences : List ℕ) (s n rate : ℕ) (book knots : List ℕ) (values : List Float)
    → ZeroUnread (λ G D. train_asked (input_of G D nodes children floor sequences s n rate) book knots values)
