-- The add, and then the sample of what the book holds.
use mathlib.Core.Path.{sym, ◌∙◌}
use Prim.Native.Nat.{ℕ, suc, ◌*◌, ◌≤◌}
use native.Mathlib.Omega.{arith}
use lib.ListN.{length}
use Rattle.priors.specs.declared.refusals.Refusal.TheVariants.{Plain}
use Rattle.baseline.specs.Courses.{lent_in}
use Rattle.baseline.proofs.InputLaws.{paths_in}
use Rattle.baseline.proofs.CourseLaws.{refused_path}
use Rattle.baseline.proofs.HoldLaws.{few_entries, held_formed, accepted_in, path_done}
use Rattle.baseline.proofs.AnswerLaws.{handed_on, went}
use Rattle.baseline.proofs.training.Run.one_path.Goals as goal

pub returns-in_err-add_next-clause-went : goal.returns-in_err-add_next-clause-went
returns-in_err-add_next-clause-went c =
    let t = c.args.self.now.training.now in
    let e = c.in_err-add_next.field-0.0 in
    rw (handed_on c.from_residual.result (Plain e) c.from_residual.ensures.1)
    (refused_path (lent_in t) (c.args.q * t.sequences.paths) c.args.i (length c.add_next.new.entries.bytes.now) c.args.self.now.values.now e c.in_err-add_next.ensures.added)

pub invariant_of-listing : goal.invariant_of-listing
invariant_of-listing c =
    let s = c.args.self.now.training.now.sequences in
    let first : ℕ = c.args.q * s.paths in
    let i : ℕ = suc c.args.i in
    let few : i ≤ 65536 = omega (arith, paths_in c.args.self.now.training.now, c.requires.i_below) in
    let book = c.add_next.new.entries.bytes.now in
    let used = c.add_next.new.entries.used in
    let holds = c.in_ok-add_next.ensures.added.1 in record {
      in_bounds = c.as_ref-held.result.in_bounds;
      few = rw c.as_ref-held.ensures.used (few_entries s.places.now first i few book used holds);
      formed = rw (c.as_ref-held.ensures.bytes, c.as_ref-held.ensures.used) (held_formed s.places.now first i few book used holds);
    }

pub returns-clause-went : goal.returns-clause-went
returns-clause-went c =
    let t = c.args.self.now.training.now in
    let s = t.sequences in
    let first : ℕ = c.args.q * s.paths in
    let i = c.args.i in
    let book = c.add_next.new.entries.bytes.now in
    let used = c.add_next.new.entries.used in
    let added = c.in_ok-add_next.ensures.added in
    let same = rw (c.as_ref-held.ensures.bytes, c.as_ref-held.ensures.used) at c.sample.ensures.value in
    went (lent_in t) first i book used c.args.self.now.values.now c.sample.new.self.values.now c.sample.result
    (same ∙ sym (path_done (lent_in t) (accepted_in t) first i (omega (arith, paths_in t, c.requires.i_below)) book used added.1 added.0 c.args.self.now.values.now))
    added.1
