-- The checks before a reading: what a reading answers by their number, and what their passing tells. Assumes nothing.
use Rattle.std.proofs.Common.{◌≡◌, ℕ, zero, suc, ◌%◌, ◌≤◌, Bool, true, false, cond, ◌&&◌, eqb, leb, List, length, sym, refl, ap, ◌∙◌, arith, leb-true}
use lib.Ieee.{Float}
use Rattle.std.specs.Prelude.{None}
use Rattle.priors.specs.declared.refusals.Reason.{Reason}
use Rattle.priors.specs.declared.refusals.Refusal.TheVariants.{Plain}
use Rattle.priors.specs.Refusals.{reason_number}
use Rattle.priors.specs.Tables.{tables_refusal}
use Rattle.priors.specs.Priors.{priors_refusal}
use Rattle.priors.proofs.BelowLaws.{second_true}
use Rattle.priors.proofs.RuleLaws.{names_none, tables_keep, priors_unnamed, unless_refused_lem}
use Rattle.book.specs.declared.trackers.Tracker.{Tracker}
use Rattle.entries.specs.Limits.{max_entries}
use Rattle.book.specs.Form.{book_fits, capacity, in_form}
use Rattle.book.proofs.CallLaws.{form_book, form_used}
use Rattle.divergence.specs.Readings.{Reading, refused, unless, form_refusal}
use Rattle.divergence.specs.Checks.{or_else, checks_refusal}

-- ---- the numbers of the checks name no node

-- a reason with the number of a check is what the check answers
pub unless_reason : {X : Type 0} (reason : Reason) (n : ℕ) (r : Reading X) → reason_number reason ≡ n → names_none n ≡ true → refused (reason_number reason) None ≡ unless n r
unless_reason reason n r e h = unless_refused_lem (Plain reason) n r e h

or_keeps : (test : ℕ → Bool) (a b : ℕ) → test a ≡ true → test b ≡ true → test (or_else a b) ≡ true
or_keeps test zero b h l = l
or_keeps test (suc a) b h l = h

pub form_unnamed : (b : Bool) → names_none (cond b 0 9) ≡ true
form_unnamed true = refl
form_unnamed false = refl

pub checks_unnamed : (t : Tracker) (book queue nodes children : List ℕ) (layer : ℕ) (G D : List Float) → names_none (checks_refusal t book queue nodes children layer G D) ≡ true
checks_unnamed t book queue nodes children layer G D =
    or_keeps names_none (tables_refusal G D) (or_else (priors_refusal nodes children layer) (form_refusal t book queue)) (tables_keep names_none G D refl refl)
    (or_keeps names_none (priors_refusal nodes children layer) (form_refusal t book queue) (priors_unnamed nodes children layer) (form_unnamed (in_form t book queue)))

-- ---- a reading after the checks

unless_or : {X : Type 0} (a b : ℕ) (r : Reading X) → unless (or_else a b) r ≡ unless a (unless b r)
unless_or zero b r = refl
unless_or (suc a) b r = refl

pub form_true : (b : Bool) → ◌≡◌ {A = ℕ} (cond b 0 9) 0 → b ≡ true
form_true true h = refl
form_true false h = absurd (omega arith)

-- the form keeps used entries within the limit
pub form_few : (t : Tracker) (book queue : List ℕ) → in_form t book queue ≡ true → t.used ≤ max_entries
unfolding book_fits
form_few t book queue h =
    omega (arith, form_used t book queue h, leb-true (capacity book) max_entries (second_true (leb 1 (capacity book)) (leb (capacity book) max_entries) (second_true (eqb (length book % 24) 0) (leb 1 (capacity book) && leb (capacity book) max_entries) (form_book t book queue h))))

module _ (t : Tracker) (book queue nodes children : List ℕ) (layer : ℕ) (G D : List Float) where
  abbrev after_checks : {X : Type 0} → Reading X → Reading X
  after_checks r = unless (tables_refusal G D) (unless (priors_refusal nodes children layer) (unless (form_refusal t book queue) r))

  pub checks_are : {X : Type 0} (r : Reading X) → after_checks r ≡ unless (checks_refusal t book queue nodes children layer G D) r
  checks_are r =
      ap (unless (tables_refusal G D)) (sym (unless_or (priors_refusal nodes children layer) (form_refusal t book queue) r))
      ∙ sym (unless_or (tables_refusal G D) (or_else (priors_refusal nodes children layer) (form_refusal t book queue)) r)

  -- a reason with the number of the checks is the reading's answer
  pub refused_by : {X : Type 0} (reason : Reason) (r : Reading X) → reason_number reason ≡ checks_refusal t book queue nodes children layer G D → refused (reason_number reason) None ≡ after_checks r
  refused_by reason r h = unless_reason reason (checks_refusal t book queue nodes children layer G D) r h (checks_unnamed t book queue nodes children layer G D) ∙ sym (checks_are r)

  module _ (h : checks_refusal t book queue nodes children layer G D ≡ 0) where
    pub passed_by : {X : Type 0} (r : Reading X) → r ≡ after_checks r
    passed_by r = sym (checks_are r ∙ ap (λ (n : ℕ). unless n r) h)
