-- Each record below the layer in turn; heads and links name the earlier ones by their slots.
use mathlib.Core.Path.{sym, ap, ◌∙◌}
use native.Mathlib.Omega.{arith}
use Prim.Native.Nat.{ℕ}
use native.Mathlib.Numerals.{add-one}
use lib.ListN.{length-set, length-replicate}
use Rattle.priors.specs.Priors.{record_count, clear_before, points_differ}
use Rattle.priors.specs.Layer.{slot}
use Rattle.priors.proofs.BelowLaws.{all_none, all_more, all_fails}
use Rattle.priors.proofs.SlotLaws.{head_at, heads_start, heads_next, links_next}
use Rattle.priors.proofs.layers.Few.slots_clear.Goals as goal

pub loop-i-init : goal.loop-i-init
loop-i-init c =
    record { clear = all_none _; latest = heads_start c.args.self.now.nodes.bytes.now 4096; linked = λ k l. absurd (omega arith); heads_len = length-replicate {A = ℕ} 4096 0; links_len = length-replicate {A = ℕ} 4096 0 }

pub returns-then-not-clear_along : goal.returns-then-not-clear_along
unfolding points_differ
returns-then-not-clear_along c =
    let nodes = c.args.self.now.nodes.bytes.now in
    sym (all_fails (clear_before nodes c.args.layer) (record_count nodes) c.loop-i.i (omega arith) (sym c.clear_along.ensures ∙ c.if-not-clear_along.true))

pub loop-i-preserved : goal.loop-i-preserved
loop-i-preserved c =
    let nodes = c.args.self.now.nodes.bytes.now in
    let i = c.loop-i.i in
    let own = c.slot-slot.ensures ∙ ap slot c.rank_at-own.ensures in
    record {
      clear = rw add-one (all_more (clear_before nodes c.args.layer) i c.loop-i.invariant.clear (sym c.clear_along.ensures ∙ c.if-not-clear_along.false));
      latest = heads_next nodes i c.loop-i.heads _ c.loop-i.invariant.heads_len own c.loop-i.invariant.latest;
      linked = links_next nodes i c.loop-i.links _ c.loop-i.invariant.links_len (omega (arith, c.args.self.now.few)) c.loop-i.invariant.linked (head_at _ _ _ _ own c.loop-i.invariant.latest);
      heads_len = length-set c.loop-i.heads _ _ ∙ c.loop-i.invariant.heads_len;
      links_len = length-set c.loop-i.links _ _ ∙ c.loop-i.invariant.links_len;
    }
