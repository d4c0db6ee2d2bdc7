-- What no number before the work leaves is what the work needs. It ends with the book all zero, and with the lengths of the knots put down, or stopped, with all else zero.
use mathlib.Core.Path.{◌≡◌, refl, sym, ap, ◌∙◌}
use Prim.Native.Nat.{ℕ, ◌*◌, ◌≤◌}
use native.Mathlib.Omega.{arith}
use mathlib.Core.List.{List, ◌++◌}
use borrow.Author.Rules.{rules}
use Rattle.std.specs.Prelude.{Result, Ok}
use lib.ListN.{length, drop, replicate}
use lib.Ieee.{Float}
use Rattle.priors.specs.declared.refusals.Refusal.{Refusal}
use Rattle.priors.specs.Refusals.{number_of, named_node}
use Rattle.book.specs.Calls.{zeros}
use Rattle.divergence.specs.Numbers.{zero64}
use Rattle.divergence.specs.Readings.{refused, answered}
use Rattle.baseline.specs.Training.{reached, started, knot_lengths, course, knots_of, train_told}
use Rattle.baseline.specs.Courses.{input_in, all_entered, ended}
use Rattle.baseline.proofs.FillLaws.{part_filled}
use Rattle.baseline.proofs.WorkLaws.{values_passed, stopped_leaves, done_leaves}
use Rattle.baseline.proofs.training.Training.work.Goals as goal

pub returns-in-Ok : goal.returns-in-Ok
returns-in-Ok c =
    let t = c.args.self.now in
    let x = input_in t in
    let book = c.args.book.now in
    let knots = c.args.knots.now in
    let values = c.args.values.now in
    let rate = t.sequences.rate in
    let count = c.knot_count-count.result in
    let after = c.run_all-ended.new.self.values.now in
    let room : 10 * count ≤ length values = rw c.knot_count-count.ensures (values_passed _ _ _ _ c.requires) in
    let begun : c.fill.new.self ++ drop (10 * count) values ≡ started (knots_of x) values =
    part_filled zero64 values c.fill.new.self (10 * count) (10 * count) refl room (c.fill.ensures.after (λ y e. e)) ∙ ap (λ (k : ℕ). started k values) c.knot_count-count.ensures in
    let done : reached after ≡ all_entered (course x book) (started (knots_of x) values) =
    ap (λ (e : Result (Unit {0}) Refusal). ended e after) (sym c.in-Ok.is) ∙ c.run_all-ended.ensures.value ∙ ap (λ (v : List Float). all_entered (course x book) v) begun in
    let left = done_leaves x book knots values c.requires after done in
    let book-is : c.fill-2.new.self ≡ zeros (length book) = c.fill-2.ensures.after (λ y e. e) ∙ ap zeros (omega arith) in
    let knots-are = c.put_lengths.ensures ∙ ap (λ (k : ℕ). knot_lengths k rate ++ drop k knots) c.knot_count-count.ensures in
    ap (train_told (Ok count) c.fill-2.new.self c.put_lengths.new.knots) (search rules) ∙ (λ i. record { answer = answered (c.knot_count-count.ensures i); book = book-is i; knots = knots-are i; values = after }) ∙ left

pub returns-in-Err : goal.returns-in-Err
returns-in-Err c =
    let x = input_in c.args.self.now in
    let book = c.args.book.now in
    let knots = c.args.knots.now in
    let values = c.args.values.now in
    let r = c.in-Err.refusal in
    let count = c.knot_count-count.result in
    let room : 10 * count ≤ length values = rw c.knot_count-count.ensures (values_passed _ _ _ _ c.requires) in
    let after = c.run_all-ended.new.self.values.now in
    let stop = ap (λ (e : Result (Unit {0}) Refusal). ended e after) (sym c.in-Err.is) ∙ c.run_all-ended.ensures.value in
    let left = stopped_leaves x book knots values c.requires r (c.fill.new.self ++ drop (10 * count) values) stop in
    let book-is : c.fill-2.new.self ≡ zeros (length book) = c.fill-2.ensures.after (λ y e. e) ∙ ap zeros (omega arith) in
    let knots-are : c.fill-in-Err.new.self ≡ zeros (length knots) = c.fill-in-Err.ensures.after (λ y e. e) in
    let values-are : c.fill-in-Err-2.new.self ≡ replicate (length values) zero64 = c.fill-in-Err-2.ensures.after (λ y e. e) ∙ ap (λ (n : ℕ). replicate n zero64) (search rules) in
    (λ i. record { answer = refused (number_of r) (named_node r); book = book-is i; knots = knots-are i; values = values-are i }) ∙ left
