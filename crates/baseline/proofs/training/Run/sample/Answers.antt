-- A path that is not sampled changes nothing; one that is brings its statistics to its knot, or the refusal that its nodes meet first.
use mathlib.Core.Path.{ap, ◌∙◌}
use Prim.Native.Nat.{◌+◌, ◌%◌}
use borrow.Author.Tests.{eq-eqb}
use Rattle.priors.specs.Refusals.{number_of, named_node}
use Rattle.divergence.specs.Parts.{nodes_from}
use Rattle.divergence.specs.Readings.{Reading, refused, answered, Statistics}
use Rattle.baseline.specs.Training.{reached}
use Rattle.baseline.proofs.CountLaws.{stats_read}
use Rattle.baseline.proofs.AnswerLaws.{handed_on}
use Rattle.baseline.proofs.training.Run.sample.Goals as goal

pub returns-in_err-tally-clause-value : goal.returns-in_err-tally-clause-value
returns-in_err-tally-clause-value c =
    let t = c.args.self.now.training.now in
    let i = c.args.i in
    let l = c.args.listing.now in
    let all = c.of-nodes.ensures ∙ (λ j. nodes_from (c.lent.ensures.bytes j) 0 (c.lent.ensures.used j)) in
    let e = c.in_err-tally.field-0.0 in
    let r : Reading Statistics = refused (number_of e) (named_node e) in
    rw (handed_on c.from_residual.result e c.from_residual.ensures.1, eq-eqb (i % t.sequences.rate) 0 c.if-i-rate-ne0.false, stats_read t (i + 1) l.bytes.now l.used _ all r c.in_err-tally.ensures)

pub returns-clause-value : goal.returns-clause-value
returns-clause-value c =
    let t = c.args.self.now.training.now in
    let i = c.args.i in
    let l = c.args.listing.now in
    let all = c.of-nodes.ensures ∙ (λ j. nodes_from (c.lent.ensures.bytes j) 0 (c.lent.ensures.used j)) in
    let a : Statistics = record { stats = c.in_ok-tally.tally.stats; skipped = c.in_ok-tally.tally.skipped } in
    rw (eq-eqb (i % t.sequences.rate) 0 c.if-i-rate-ne0.false, stats_read t (i + 1) l.bytes.now l.used _ all (answered a) c.in_ok-tally.ensures) (ap reached c.add_at.ensures)
