-- Each call compares the addresses of two records, and these are all of them in turn.
use mathlib.Core.Path.{ap, ◌∙◌}
use Rattle.std.proofs.Common.{rules}
use Rattle.std.proofs.lemmas.Iterator.{YieldsList-from_range, YieldsList-from_map}
use Rattle.priors.specs.Priors.{record_at, record_count, ascends}
use Rattle.priors.proofs.OrderedWalks.{sorted_walk, records_listed}
use Rattle.priors.proofs.checks.nodes_ascend.Goals as goal

pub returns : goal.returns
returns c =
    let s = c.args.nodes.now in
    sorted_walk _ (λ f a b r q k. search rules) _ _ c.is_sorted_by.result c.is_sorted_by.ensures.ran
    (YieldsList-from_map _ (record_at s) (YieldsList-from_range 0 c.record_count.result (record_count s) c.map.ensures.source (search rules)) c.map.ensures.closure (λ x r q k. search rules))
    ∙ ap ascends (records_listed s)
