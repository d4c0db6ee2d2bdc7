-- `count_total` meets its contract: the sum so far and the counts still to come are the total, up to the greatest u64.
use Rattle.std.proofs.Common.{◌≡◌, ◌+◌, ◌-◌, ◌*◌, ◌^◌, ◌<◌, ◌≤◌, min}
use Rattle.priors.specs.Priors.{count_sum}
use Rattle.divergence.specs.Parts.{part}
use Rattle.divergence.proofs.evidence.count_total.Given as goal

abbrev pub invariant-loop-i : goal.invariant-loop-i
invariant-loop-i l = record {
  sum_is : min (l.sum + count_sum (part l.entries.bytes.now l.i l.entries.used)) (2 ^ 64 - 1) ≡ min (count_sum (part l.entries.bytes.now l.from l.entries.used)) (2 ^ 64 - 1);
  sum_fits : l.sum < 2 ^ 64;
  sum_small : l.sum ≤ 2 ^ 32 * l.i;
}
