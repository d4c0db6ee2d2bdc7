-- The claim about training, proved: the divergence's claim gives the recount's answers for the machine's, and among those the records are the ones that training takes.
-- Assumes nothing.
use mathlib.Core.Path.{◌≡◌, refl, ap, ◌∙◌}
use mathlib.Core.Bool.{Bool, true, false, cond}
use Prim.Native.Nat.{ℕ, zero, suc, ◌+◌, ◌*◌, ◌%◌, ◌<◌}
use mathlib.Core.List.{List, [], ◌∷◌}
use lib.Dec.{eqb}
use lib.ListN.{length}
use Rattle.priors.specs.Tables.{lent_tables}
use Rattle.priors.specs.Priors.{lent_priors}
use Rattle.book.specs.Path.{path_of}
use Rattle.book.specs.Calls.{unless_refused}
use Rattle.book.specs.Figures.{All}
use Rattle.book.specs.Claims.{Recount, since, open_refusal, add_refusal, restarted, joined, recount_step, runs}
use Rattle.book.specs.Batches.{path_in}
use Rattle.divergence.specs.declared.statistics.KLDivergenceStats.{KLDivergenceStats}
use Rattle.divergence.specs.Readings.{Reading, refused, nothing, answered, mapped, Statistics}
use Rattle.divergence.specs.Asked.{stats_asked}
use Rattle.divergence.specs.Claims.{Call, read, kl_div_stats, stats, reading, recount_seen, recounted, InBytes}
use Rattle.divergence.proofs.Claimed as Divergence
use Rattle.baseline.specs.Training.{Lent, Input, Until, and_then, unless_stopped, recorded, recount_stats, records_from, sequence_records}
use Rattle.book.proofs.BatchLaws.{path_bytes}
use Rattle.baseline.specs.Claims.{calls_from, sequence_calls, and_record, records_in, Claim}

-- ---- every call is lent bytes

calls_bytes : (x : Lent) → All (λ b. b < 256) x.sequences → (first i m : ℕ) → All InBytes (calls_from x first i m)
unfolding calls_from
calls_bytes x h first i zero = tt
calls_bytes x h first i (suc m) = (path_bytes x.sequences (first + i) h, go (eqb (i % x.rate) 0) (calls_bytes x h first (suc i) m))
  where
    rest : List Call
    rest = calls_from x first (suc i) m

    go : (b : Bool) → All InBytes rest → All InBytes (cond b (read (kl_div_stats (lent_tables x.G x.D) (lent_priors x.nodes x.children x.floor)) ∷ rest) rest)
    go true t = (tt, t)
    go false t = t

-- ---- the recount's answers hold the records

record_told : (r : Reading Statistics) (rest : Until (List KLDivergenceStats)) → and_record (mapped stats r) rest ≡ and_then (recorded r) rest
record_told (refused n at) rest = refl
record_told nothing rest = refl
record_told (answered a) rest = refl

records_are : (x : Lent) (first : ℕ) (r : Recount) (i m : ℕ) → records_in (runs recounted r (calls_from x first i m)).0 ≡ records_from x first r i m
unfolding records_in runs recounted recount_step calls_from records_from recount_stats reading
records_are x first r i zero = refl
records_are x first r i (suc m) = go (add_refusal r path) (eqb (i % x.rate) 0) (records_are x first after (suc i) m)
  where
    path : List ℕ
    path = path_in x.sequences (first + i)

    after : Recount
    after = joined r (path_of path)

    rest : List Call
    rest = calls_from x first (suc i) m

    go : (n : ℕ) (b : Bool) → records_in (runs recounted after rest).0 ≡ records_from x first after (suc i) m
        → unless_stopped n (records_in (runs recounted (unless_refused n after r) (cond b (read (kl_div_stats (lent_tables x.G x.D) (lent_priors x.nodes x.children x.floor)) ∷ rest) rest)).0)
        ≡ unless_stopped n (cond b (and_then (recount_stats x after) (records_from x first after (suc i) m)) (records_from x first after (suc i) m))
    go (suc n) b ih = refl
    go zero true ih = record_told (stats_asked (recount_seen after.window after.paths (since after)) (lent_tables x.G x.D) (lent_priors x.nodes x.children x.floor)) (records_in (runs recounted after rest).0) ∙ ap (λ (u : Until (List KLDivergenceStats)). and_then (recount_stats x after) u) ih
    go zero false ih = ih

opened_records : (x : Input) (r : Recount) (book : List ℕ) → open_refusal 0 (length book) 0 ≡ 0 → (q : ℕ) → records_in (runs recounted r (sequence_calls x book q)).0 ≡ sequence_records x (length book) q
unfolding records_in runs recounted recount_step sequence_calls sequence_records
opened_records x r book e q = rw e (records_are x.lent (q * x.n) (restarted 0 (length book) 0) 0 x.n)

pub claim : Claim
unfolding sequence_calls
claim x book m e bytes q =
    let r : Recount = restarted 0 0 0 in
    ap records_in (Divergence.claim m r [] tt 0 book [] e (calls_from x.lent (q * x.n) 0 x.n) (calls_bytes x.lent bytes (q * x.n) 0 x.n)).0
    ∙ opened_records x r book e q
