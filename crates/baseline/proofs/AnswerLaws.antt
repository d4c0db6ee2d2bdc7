-- What a refusal handed on by `?` is, and what an answer's cases say of the values. Assumes nothing.
use Rattle.std.proofs.Common.{◌≡◌, ℕ, suc, Bool, true, false, List, length, refl, sym, ap, arith}
use Rattle.std.specs.Prelude.{if◌then◌else◌}
use Rattle.std.specs.Prelude.{Result, Ok, Err}
use Rattle.std.specs.Result.{IsErrAnd}
use lib.Ieee.{Float}
use Rattle.priors.specs.declared.refusals.Reason.{Reason}
use Rattle.priors.specs.declared.refusals.Refusal.{Refusal}
use Rattle.priors.specs.declared.refusals.Refusal.TheVariants.{Plain}
use Rattle.priors.specs.Refusals.{reason_number, checked_number}
use Rattle.priors.proofs.RuleLaws.{some_number}
use Rattle.baseline.specs.Training.{Lent}
use Rattle.baseline.specs.Courses.{Holds, one_path, ended, Went}

pub handed_on : {X E : Type 0} (a : Result X E) (e : E) → IsErrAnd a (λ q. q ≡ e) → a ≡ Err e
handed_on (Ok x) e h = absurd h
handed_on (Err q) e h = ap Err h

-- a reason's number
pub number_on : {X : Type 0} (a : Result X Reason) (e : Reason) → IsErrAnd a (λ q. q ≡ e) → checked_number a ≡ reason_number e
number_on a e h = ap checked_number (handed_on a e h)

-- a path that is refused by itself is not whole
pub ten_refuses : (e : Reason) (whole : Bool) → reason_number e ≡ (if whole then 0 else 10) → (whole ≡ false) × (reason_number e ≡ 10)
ten_refuses e true h = absurd (omega (arith, (some_number (Plain e)).1))
ten_refuses e false h = (refl, h)

-- one path, by what the answer and the values come to
pub went : (x : Lent) (first i : ℕ) (book : List ℕ) (used : ℕ) (before after : List Float) (a : Result (Unit {0}) Refusal)
    → ended a after ≡ one_path x first i (length book) before → Holds x.sequences first (suc i) book used → Went x first i book used before after a
went x first i book used before after (Ok u) h holds = (sym h, holds)
went x first i book used before after (Err r) h holds = sym h
