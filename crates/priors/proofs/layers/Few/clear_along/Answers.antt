-- From the last record with the slot of i back along the links: none passed has one point with it.
use mathlib.Core.Path.{sym, ◌∙◌}
use native.Mathlib.Omega.{arith}
use Prim.Native.Nat.{◌-◌}
use Rattle.priors.proofs.SlotLaws.{clear_last, clear_on, latest_is, linked_at}
use Rattle.priors.proofs.layers.Few.clear_along.Goals as goal

pub loop-at-init : goal.loop-at-init
loop-at-init c =
    let latest = latest_is _ _ _ _ _ c.from-at.ensures c.requires.latest in
    (latest.0, c.rank_at-own.ensures, clear_last _ _ _ _ latest, latest.2)

pub loop-at-preserved : goal.loop-at-preserved
loop-at-preserved c =
    let latest = linked_at _ _ (c.loop-at.at - 1) _ _ c.requires.linked c.from-at-in-loop-at.ensures (omega arith) in
    let same = c.loop-at.invariant.3 (omega arith) in (
      omega (arith, latest.0),
      c.loop-at.invariant.1,
      clear_on _ _ _ _ _ _ c.loop-at.invariant.1 c.rank_at.ensures _ _ c.loop-at.invariant.2 (sym c.one_point.ensures ∙ c.if-one_point.false) same latest (omega arith),
      λ l. latest.2 l ∙ same,
    )
