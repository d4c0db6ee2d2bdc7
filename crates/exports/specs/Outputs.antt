-- The parts of each answer in the order in which they stand in lent numbers and arrays. Assumes nothing.
use Rattle.std.specs.Prelude.{ℕ, List, [], ◌∷◌, get_or, Float}
use Rattle.std.specs.Prelude.{Option, None, Some, Result}
use Rattle.priors.specs.declared.refusals.Reason.{Reason}
use Rattle.priors.specs.Children.{ChildLook}
use Rattle.book.specs.declared.trackers.Tracker.{Tracker}
use Rattle.book.specs.Calls.{BookAnswer, opened_state, unless_refused}
use Rattle.divergence.specs.Readings.{Statistics}
use Rattle.divergence.specs.Asked.{Seen, seen_of}
use Rattle.divergence.specs.Answers.{VectorResult, AllResult}
use Rattle.baseline.specs.declared.five.Five.{Five}
use Rattle.baseline.specs.declared.figures.MeanVar.{MeanVar}

-- ---- a tracker: window, entries used, paths accepted

abbrev pub tracker_of : List ℕ → Tracker
tracker_of state = record { window = get_or state 0 0; used = get_or state 1 0; accepted = get_or state 2 0 }

-- what a reading sees of it
abbrev pub seen_in : List ℕ → List ℕ → List ℕ → Seen
seen_in state book queue = seen_of (tracker_of state) book queue

abbrev pub numbers_of : Tracker → List ℕ
numbers_of t = t.window ∷ t.used ∷ t.accepted ∷ []

-- a refused opening gives no state, and the one before it stands
abbrev pub numbers_or : Option Tracker → List ℕ → List ℕ
numbers_or None before = before
numbers_or (Some t) before = numbers_of t

abbrev pub opened_numbers : Result Tracker Reason → List ℕ → List ℕ
opened_numbers answer before = numbers_or (opened_state answer) before

abbrev pub kept_numbers : BookAnswer → List ℕ → List ℕ
kept_numbers a before = unless_refused a.number (numbers_or a.state before) before

-- how many paths were taken, where that is told
abbrev pub taken_or : Option ℕ → ℕ → ℕ
taken_or None before = before
taken_or (Some n) before = n

-- ---- a child's look-up

-- the number of child records read
abbrev pub read_of : ChildLook → ℕ
read_of l = l.read

-- ---- readings

abbrev pub places_of : VectorResult → ℕ
places_of v = v.places

abbrev pub ending_of : VectorResult → Float
ending_of v = v.ending

-- an answer of one part
abbrev pub itself : {X : Type 0} → X → X
itself x = x

-- places filled, nodes skipped
abbrev pub all_counts : AllResult → List ℕ
all_counts a = a.places ∷ a.skipped ∷ []

-- maximum, minimum, sum, sum of squares
abbrev pub four_figures : Statistics → List Float
four_figures a = a.stats.max ∷ a.stats.min ∷ a.stats.moment1_nz ∷ a.stats.moment2_nz ∷ []

-- number above 1.0e-10, sequence length, nodes skipped
abbrev pub three_counts : Statistics → List ℕ
three_counts a = a.stats.nz_count ∷ a.stats.sequence_len ∷ a.skipped ∷ []

-- ---- baselines

-- mean and variance of maximum, minimum, number, sum and sum of squares
abbrev pub ten_figures : Five MeanVar → List Float
ten_figures f =
    f.max.mean ∷ f.max.variance
    ∷ f.min.mean ∷ f.min.variance
    ∷ f.nz_count.mean ∷ f.nz_count.variance
    ∷ f.moment1_nz.mean ∷ f.moment1_nz.variance
    ∷ f.moment2_nz.mean ∷ f.moment2_nz.variance
    ∷ []
