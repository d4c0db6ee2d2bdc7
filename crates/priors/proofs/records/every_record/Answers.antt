use Rattle.std.proofs.Common.{sym, ◌∙◌, arith, add-one, ◌<◌}
use Rattle.priors.specs.Priors.{record_count}
use Rattle.priors.proofs.BelowLaws.{all_more, all_fails}
use Rattle.priors.proofs.records.every_record.Goals as goal

pub returns-then-not-test : goal.returns-then-not-test
returns-then-not-test g c = λ p agree.
    let i = c.loop-i.i in
    let l : i < record_count c.args.s.now = omega arith in
    sym (all_fails p (record_count c.args.s.now) i l (sym (agree i c.test.result l (rw c.record_at.ensures at c.test.ensures)) ∙ c.if-not-test.true))

pub loop-i-preserved : goal.loop-i-preserved
loop-i-preserved g c = λ p agree.
    let i = c.loop-i.i in
    let l : i < record_count c.args.s.now = omega arith in
    rw add-one (all_more p i (c.loop-i.invariant p agree) (sym (agree i c.test.result l (rw c.record_at.ensures at c.test.ensures)) ∙ c.if-not-test.false))
