-- Groups of one scale in turn; in each, the place of the one address with that scale and the point wanted.
use native.Mathlib.Omega.{arith}
use Rattle.priors.proofs.LayerLaws.{none_left, past_all, passed_on, found_key}
use Rattle.priors.proofs.places.Nodes.place_by_point.Goals as goal

pub returns-then-at-n : goal.returns-then-at-n
returns-then-at-n c =
    past_all _ _ _ c.args.self.now.ascending (omega arith) c.loop-start.start c.scale_part-scale.result c.of_parts-key.result _ (omega (arith, c.rank_at.ensures)) (omega arith) c.first_from-at.ensures c.loop-start.invariant.1 (omega arith)

pub returns-then-rank_at-key : goal.returns-then-rank_at-key
returns-then-rank_at-key c = (
  omega (arith, c.first_from-at.ensures),
  found_key _ _ _ c.args.self.now.ascending (omega arith) c.loop-start.start c.scale_part-scale.result c.of_parts-key.result _ (omega (arith, c.rank_at.ensures)) (omega arith) c.first_from-at.ensures (omega arith) (omega (arith, c.rank_at-in-loop-start.ensures)),
)

pub loop-start-preserved : goal.loop-start-preserved
loop-start-preserved c = (
  omega (arith, c.first_from-start.ensures.1),
  passed_on _ _ _ c.args.self.now.ascending (omega arith) c.loop-start.start c.scale_part-scale.result c.of_parts-key.result _ (omega (arith, c.rank_at.ensures)) (omega arith) c.first_from-at.ensures c.of_parts.result _ (omega arith) c.first_from-start.ensures c.loop-start.invariant.1 (λ l e. omega (arith, c.rank_at-in-loop-start.ensures, e)),
)

pub returns : goal.returns
returns c = none_left _ _ _ c.args.self.now.ascending (omega arith) _ c.loop-start.invariant.1 (λ j l m. absurd (omega arith))
