-- Each call compares its two knots.
use Rattle.std.proofs.Common.{rules}
use Rattle.std.proofs.lemmas.Fn.{always_returns_same}
use lib.Dec.{ltb}
use Rattle.baseline.proofs.KnotLaws.{rising_answer}
use Rattle.baseline.proofs.baselines.is_rising.Goals as goal

pub returns : goal.returns
returns c = rising_answer c.args.knots.now c.is_sorted_by.result (c.is_sorted_by.ensures.cases ltb (always_returns_same _ _ _ (λ a r f k. search rules)))
