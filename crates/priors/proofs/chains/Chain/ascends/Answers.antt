-- Each call compares the addresses of two records.
use mathlib.Core.Path.{refl}
use Rattle.std.proofs.Common.{rules}
use Rattle.std.proofs.lemmas.Iterator.Consumers.{YieldsList-from_first}
use Rattle.priors.specs.Chains.{records_left}
use Rattle.priors.proofs.OrderedWalks.{sorted_walk}
use Rattle.priors.proofs.chains.Chain.ascends.Goals as goal

pub returns : goal.returns
returns c = sorted_walk _ (λ f a b r q k. search rules) _ _ c.is_sorted_by.result c.is_sorted_by.ensures.ran (YieldsList-from_first (λ x. x) records_left _ refl)
