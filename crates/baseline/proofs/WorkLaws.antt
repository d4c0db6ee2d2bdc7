-- What `train` answers and leaves, in each of its three ways: refused before the work, stopped in it, and done. Assumes nothing.
use mathlib.Core.Path.{◌≡◌, refl, sym, ◌∙◌}
use Prim.Native.Nat.{ℕ, ◌*◌, ◌/◌, ◌≤◌, min}
use native.Mathlib.Omega.{arith}
use mathlib.Core.Bool.{true}
use mathlib.Core.List.{List, ◌++◌}
use Rattle.std.specs.Prelude.{Option, None}
use lib.ListN.{length, drop, replicate}
use lib.Ieee.{Float}
use Rattle.priors.specs.declared.addresses.Address.{Address}
use Rattle.priors.specs.declared.refusals.Refusal.{Refusal}
use Rattle.priors.specs.declared.refusals.Refusal.TheVariants.{Plain}
use Rattle.priors.specs.declared.refusals.Reason.{Reason}
use Rattle.priors.specs.Refusals.{reason_number, number_of, named_node}
use Rattle.priors.specs.Tables.{tables_refusal}
use Rattle.priors.specs.Priors.{layer_of, priors_refusal}
use Rattle.book.specs.Form.{book_fits}
use Rattle.book.specs.Calls.{zeros}
use Rattle.divergence.specs.declared.statistics.KLDivergenceStats.{KLDivergenceStats}
use Rattle.divergence.specs.Numbers.{zero64}
use Rattle.divergence.specs.Readings.{refused, answered}
use Rattle.baseline.specs.Training.{Input, Until, stopped, reached, knot_room, sizes_refusal, train_refusal, add_all, started, knot_lengths, course, knots_of, train_asked}
use Rattle.baseline.specs.Courses.{all_entered}
use Rattle.priors.proofs.RuleLaws.{some_number}
use Rattle.baseline.proofs.InputLaws.{three_passed, SizesFit, sizes_passed}

-- ---- what no refusal tells

room_both : (a b count : ℕ) → count ≤ min a (b / 10) → (count ≤ a) × (10 * count ≤ b)
room_both a b count h = (omega arith, omega arith)

module _ (x : Input) (book knots : List ℕ) (values : List Float) (h : train_refusal x book knots values ≡ 0) where
  sizes : SizesFit x.lent.sequences x.s x.n x.lent.rate book (knot_room knots values)
  unfolding train_refusal
  sizes =
      let numbers =
      three_passed (tables_refusal x.lent.G x.lent.D) (priors_refusal x.lent.nodes x.lent.children (layer_of x.lent.floor))
      (sizes_refusal x.lent.sequences x.s x.n x.lent.rate book (knot_room knots values)) h in
      sizes_passed x.lent.sequences x.s x.n x.lent.rate book (knot_room knots values) numbers.2

  pub book_passed : book_fits book ≡ true
  book_passed = sizes.book_sized

  pub knots_passed : knots_of x ≤ length knots
  knots_passed = (room_both (length knots) (length values) (knots_of x) sizes.room).0

  pub values_passed : 10 * knots_of x ≤ length values
  values_passed = (room_both (length knots) (length values) (knots_of x) sizes.room).1

-- ---- the three ways

abbrev Records : Type 0
Records = Until (List (List KLDivergenceStats))

stops : (u : Records) (values : List Float) (n : ℕ) (node : Option Address) → stopped n node ≡ all_entered u values → u ≡ stopped n node
stops (stopped m a) values n at e = cc
stops (reached rss) values n at e = let z : ◌≡◌ {A = ℕ} 0 1 = cc in absurd (omega arith)

module _ (x : Input) (book knots : List ℕ) (values : List Float) where
  pub refused_leaves : (r : Reason) → reason_number r ≡ train_refusal x book knots values
      → record { answer = refused (reason_number r) None; book = book; knots = knots; values = values } ≡ train_asked x book knots values
  unfolding train_asked
  refused_leaves r e = let m = some_number (Plain r) in let number = sym e ∙ m.1 in rw (number, m.1)

  module _ (none-refused : train_refusal x book knots values ≡ 0) where
    pub stopped_leaves : (r : Refusal) (after : List Float) → stopped (number_of r) (named_node r) ≡ all_entered (course x book) after
        → record { answer = refused (number_of r) (named_node r); book = zeros (length book); knots = zeros (length knots); values = replicate (length values) zero64 } ≡ train_asked x book knots values
    unfolding train_asked
    stopped_leaves r after e = let is = stops (course x book) after (number_of r) (named_node r) e in rw (none-refused, is)

    pub done_leaves : (after : List Float) → reached after ≡ all_entered (course x book) (started (knots_of x) values)
        → record { answer = answered (knots_of x); book = zeros (length book); knots = knot_lengths (knots_of x) x.lent.rate ++ drop (knots_of x) knots; values = after } ≡ train_asked x book knots values
    unfolding train_asked
    done_leaves after e = go (course x book) refl e
      where
        go : (u : Records) → course x book ≡ u → reached after ≡ all_entered u (started (knots_of x) values)
            → record { answer = answered (knots_of x); book = zeros (length book); knots = knot_lengths (knots_of x) x.lent.rate ++ drop (knots_of x) knots; values = after } ≡ train_asked x book knots values
        go (stopped n at) is h = let z : ◌≡◌ {A = ℕ} 0 1 = cc in absurd (omega arith)
        go (reached rss) is h =
            let values-are : after ≡ add_all rss (started (knots_of x) values) = cc in
            rw (none-refused, is, values-are)
