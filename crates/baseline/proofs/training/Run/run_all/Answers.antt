-- The values with the sequences still to come are those at the start with all of them.
use mathlib.Core.Path.{◌≡◌, sym, ap, ◌∙◌}
use Prim.Native.Nat.{ℕ}
use native.Mathlib.Omega.{arith}
use lib.ListN.{length}
use Rattle.priors.specs.Refusals.{number_of, named_node}
use Rattle.baseline.specs.Training.{sequence_records}
use Rattle.baseline.specs.Courses.{input_in, entered}
use Rattle.baseline.proofs.CourseLaws.{every_sequence_left, no_sequence_left, sequence_stops, sequence_goes}
use Rattle.baseline.proofs.AnswerLaws.{handed_on}
use Rattle.baseline.proofs.training.Run.run_all.Goals as goal

pub returns-in_err-run_sequence-clause-value : goal.returns-in_err-run_sequence-clause-value
returns-in_err-run_sequence-clause-value c =
    let x = input_in c.args.self.now.training.now in
    let q = c.loop-q.q in
    let values = c.loop-q.self.values.now in
    let size = length c.args.book.now in
    let e = c.in_err-run_sequence.field-0.0 in
    let same : length c.loop-q.book ≡ size = omega arith in
    rw (handed_on c.from_residual.result e c.from_residual.ensures.1)
    (sym (sequence_stops x size q c.loop-q-test.true values (number_of e) (named_node e) (ap (λ (k : ℕ). entered 0 (sequence_records x k q) values) (sym same) ∙ sym (rw c.loop-q.invariant.same_training at c.in_err-run_sequence.ensures.value)))
    ∙ c.loop-q.invariant.to_come
    ∙ every_sequence_left x size c.args.self.now.values.now)

pub loop-q-preserved : goal.loop-q-preserved
loop-q-preserved c =
    let x = input_in c.args.self.now.training.now in
    let q = c.loop-q.q in
    let values = c.loop-q.self.values.now in
    let size = length c.args.book.now in
    let same : length c.loop-q.book ≡ size = omega arith in
    record {
      same_training = c.run_sequence.ensures.same_training ∙ c.loop-q.invariant.same_training;
      same_reference = c.run_sequence.ensures.same_reference ∙ c.loop-q.invariant.same_reference;
      to_come = sym (sequence_goes x size q c.loop-q-test.true values c.run_sequence.new.self.values.now (ap (λ (k : ℕ). entered 0 (sequence_records x k q) values) (sym same) ∙ sym (rw c.loop-q.invariant.same_training at c.in_ok-run_sequence.ensures.value))) ∙ c.loop-q.invariant.to_come;
    }

pub returns-clause-value : goal.returns-clause-value
returns-clause-value c =
    let x = input_in c.args.self.now.training.now in
    let size = length c.args.book.now in
    sym (no_sequence_left x size c.loop-q.q (omega arith) c.loop-q.self.values.now) ∙ c.loop-q.invariant.to_come ∙ every_sequence_left x size c.args.self.now.values.now
