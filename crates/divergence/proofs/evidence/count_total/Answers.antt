-- `count_total` meets its contract: the sum so far and the counts still to come are the total, up to the greatest u64.
use Rattle.std.proofs.Common.{arith}
use Rattle.divergence.proofs.NodeLaws.{sum_on, sum_none}
use Rattle.divergence.proofs.evidence.count_total.Goals as goal

pub loop-i-preserved : goal.loop-i-preserved
loop-i-preserved c =
    let e = c.args.entries.now in
    record {
      sum_is = omega (arith, sum_on e.bytes.now c.loop-i.i e.used c.loop-i-test.true, c.loop-i.invariant.sum_is);
      sum_fits = omega arith;
      sum_small = omega (arith, c.loop-i.invariant.sum_small);
    }

pub returns : goal.returns
returns c =
    let e = c.args.entries.now in
    let none = sum_none e.bytes.now c.loop-i.i e.used c.loop-i-test.false in
    record {
      capped = omega (arith, none, c.loop-i.invariant.sum_is, c.loop-i.invariant.sum_fits);
      exact = λ few. omega (arith, none, few, c.loop-i.invariant.sum_is, c.loop-i.invariant.sum_small, c.loop-i.auto);
    }
