-- Demand 3 for one tracker: the claim over every list of openings, adds, lists of paths, tidies and readings. The machine keeps state, book and queue and answers by the
-- definitions that the functions' contracts cite. The recount keeps W, H and the base and applies the same formulas to its own lists. From an accepted opening on every
-- answer, every refusal and every byte is the recount's. Assumes nothing.
use Rattle.std.specs.Prelude.{◌≡◌, ℕ, List, [], ◌∷◌, ◌++◌, length, ℤ, Float}
use Rattle.priors.specs.Address.{rank_of}
use Rattle.priors.specs.Tables.{LentTables}
use Rattle.priors.specs.Priors.{LentPriors}
use Rattle.book.specs.Path.{Steps}
use Rattle.book.specs.Calls.{Machine, BookAnswer}
use Rattle.book.specs.Recount as Paths
use Rattle.book.specs.Figures.{All}
use Rattle.book.specs.Claims as Book
use Rattle.book.specs.Claims.{BookCall, opening, book_step, Recount, since, open_refusal, recount_step, image, runs}
use Rattle.divergence.specs.RecountNodes.{recount_nodes}
use Rattle.divergence.specs.Readings.{Reading, Statistics, mapped}
use Rattle.divergence.specs.Answers.{VectorResult, AllResult}
use Rattle.divergence.specs.Asked.{Seen, seen_of, Output, Telling, prob_asked, evidence_asked, kl_asked, all_asked, stats_asked}

-- ---- calls and answers

-- a reading with all that it is lent beside the tracker: tables, priors, the address asked for, and the output with what it holds before
pub data ReadingCall : Type 0 where
  prob_vector : LentPriors → (scale : ℤ) (point : ℕ) → Output → ReadingCall
  evidence_prob_vector : (scale : ℤ) (point : ℕ) → Output → ReadingCall
  posterior_kl_divergence : LentTables → LentPriors → (scale : ℤ) (point : ℕ) → ReadingCall
  all_node_kl : LentTables → LentPriors → Output → ReadingCall
  kl_div_stats : LentTables → LentPriors → ReadingCall

pub data Call : Type 0 where
  change : BookCall → Call
  read : ReadingCall → Call

pub data Result : Type 0 where
  vector : VectorResult → Result
  kl : Float → Result
  all_kl : AllResult → Result
  stats : Statistics → Result

-- a change, which is an opening, an add, a list of paths or a tidy, answers with what it leaves; a reading tells its result, with what lies in its lent outputs afterwards
pub data Answer : Type 0 where
  changed : BookAnswer → Answer
  told : Reading Result → List Output → Answer

abbrev pub told_with : {X : Type 0} → (X → Result) → Telling X → Answer
told_with result t = told (mapped result t.answer) (t.output ∷ [])

-- what a reading answers is what its function's contract says
unfoldable pub reading : Seen → ReadingCall → Answer
reading s (prob_vector priors scale point out) = told_with vector (prob_asked s priors (rank_of scale point) out)
reading s (evidence_prob_vector scale point out) = told_with vector (evidence_asked s (rank_of scale point) out)
reading s (posterior_kl_divergence tables priors scale point) = told (mapped kl (kl_asked s tables priors (rank_of scale point))) []
reading s (all_node_kl tables priors out) = told_with all_kl (all_asked s tables priors out)
reading s (kl_div_stats tables priors) = told (mapped stats (stats_asked s tables priors)) []

-- ---- the machine and the recount

-- a call, by what changes do and what a reading sees; a reading changes nothing
abbrev pub called : {State : Type 0} → (State → BookCall → BookAnswer × State) → (State → Seen) → State → Call → Answer × State
called book seen s (change c) = let after = book s c in (changed after.0, after.1)
called book seen s (read c) = (reading (seen s) c, s)

-- the machine: a reading sees the state, the book and the queue
unfoldable pub step : Machine → Call → Answer × Machine
step = called book_step (λ (m : Machine). seen_of m.state m.book m.queue)

-- what a reading sees of W, H and the paths L that list, told from the paths alone; never 9 for the list's own tracker
abbrev pub recount_seen : ℕ → List Steps → List Steps → Seen
recount_seen W H L = record { form = 0; listed = recount_nodes W H L; sequence_length = Paths.sequence_length W H }

unfoldable pub recounted : Recount → Call → Answer × Recount
recounted = called recount_step (λ (r : Recount). recount_seen r.window r.paths (since r))

-- ---- the claim

abbrev pub IsOpening : Call → Type 0
IsOpening (change c) = Book.IsOpening c
IsOpening (read c) = ⊥

abbrev pub InBytes : Call → Type 0
InBytes (change c) = Book.InBytes c
InBytes (read c) = Unit {0}

-- whatever the machine and the recount were before, and whatever openings stand first, refused or not: with an accepted opening and any calls after it, every answer of
-- the list is the recount's, and the machine afterwards is the image of the recount's W, H and base
abbrev pub Claim : Type 0
Claim =
    (m : Machine) (r : Recount) (first : List Call) → All IsOpening first
    → (window : ℕ) (book queue : List ℕ) → open_refusal window (length book) (length queue) ≡ 0
    → (calls : List Call) → All InBytes calls
    → let all = first ++ change (opening window book queue) ∷ calls in
    ((runs step m all).0 ≡ (runs recounted r all).0) × ((runs step m all).1 ≡ image (runs recounted r all).1)
