-- The book holds the paths so far, and the values with what is still to come are those at the start with the whole sequence.
use mathlib.Core.Path.{refl, sym, subst, ◌∙◌}
use Prim.Native.Nat.{ℕ, ◌*◌}
use native.Mathlib.Numerals.{add-one}
use native.Mathlib.Omega.{arith}
use lib.ListN.{length}
use Rattle.priors.specs.Refusals.{number_of, named_node}
use Rattle.baseline.specs.Courses.{Holds}
use Rattle.baseline.proofs.HoldLaws.{held_none}
use Rattle.baseline.proofs.NextLaws.{run_starts, run_ends, run_stops, run_goes}
use Rattle.baseline.proofs.AnswerLaws.{handed_on}
use Rattle.baseline.proofs.training.Run.run_sequence.Goals as goal

pub loop-i-init : goal.loop-i-init
loop-i-init c =
    let s = c.args.self.now.training.now.sequences in
    record { same_training = refl; same_reference = refl; same_size = refl; holds = held_none s.places.now (c.args.q * s.paths) c.args.book.now c.requires.book_sized; to_come = refl }

pub returns-in_err-one_path-clause-value : goal.returns-in_err-one_path-clause-value
returns-in_err-one_path-clause-value c =
    let t = c.args.self.now.training.now in
    let size = length c.args.book.now in
    let e = c.in_err-one_path.field-0.0 in
    let same = c.one_path.ensures.len ∙ c.loop-i.invariant.same_size in
    let went = rw c.loop-i.invariant.same_training at c.in_err-one_path.ensures.went in
    rw (handed_on c.from_residual.result e c.from_residual.ensures.1)
    (sym (run_stops t c.args.q size c.loop-i.i c.loop-i-test.true c.loop-i.self.values.now _ same (number_of e) (named_node e) went) ∙ c.loop-i.invariant.to_come ∙ run_starts t c.args.q size c.args.self.now.values.now)

pub loop-i-preserved : goal.loop-i-preserved
loop-i-preserved c =
    let t = c.args.self.now.training.now in
    let s = t.sequences in
    let book = c.one_path.new.entries in
    let same = c.one_path.ensures.len ∙ c.loop-i.invariant.same_size in
    let went = rw c.loop-i.invariant.same_training at c.in_ok-one_path.ensures.went in record {
      same_training = c.one_path.ensures.same_training ∙ c.loop-i.invariant.same_training;
      same_reference = c.one_path.ensures.same_reference ∙ c.loop-i.invariant.same_reference;
      same_size = same;
      holds = subst (λ (j : ℕ). Holds s.places.now (c.args.q * s.paths) j book.bytes.now book.used) (sym (add-one c.loop-i.i)) went.1;
      to_come = sym (run_goes t c.args.q (length c.args.book.now) c.loop-i.i c.loop-i-test.true c.loop-i.self.values.now _ same c.one_path.new.self.values.now went.0) ∙ c.loop-i.invariant.to_come;
    }

pub returns-clause-value : goal.returns-clause-value
returns-clause-value c =
    let t = c.args.self.now.training.now in
    let size = length c.args.book.now in
    sym (run_ends t c.args.q size c.loop-i.i (omega arith) c.loop-i.self.values.now) ∙ c.loop-i.invariant.to_come ∙ run_starts t c.args.q size c.args.self.now.values.now
