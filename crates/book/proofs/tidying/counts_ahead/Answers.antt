-- The loop's invariant: the answer is that of the entries from here on.
-- Assumes nothing.
use mathlib.Core.Path.{sym, ◌∙◌}
use native.Mathlib.Omega.{arith}
use Rattle.book.proofs.TidyLaws.{bytes_behind, ahead_other, ahead_counts, ahead_on, ahead_none}
use Rattle.book.proofs.tidying.counts_ahead.Goals as goal

pub returns-then-rank_at-node : goal.returns-then-rank_at-node
returns-then-rank_at-node c =
    let so_far = c.loop-entry.invariant in
    let cut = c.in-Some.ensures.steps.1 in
    ahead_other c.args.entries.now c.args.node c.loop-entry.entry-iterator.rest.now c.in-Some.entry.now c.next.new.self.rest.now so_far.bytes so_far.so_far cut.0 (cut.1 ∙ so_far.size) (λ e. c.if-rank_at-node.true (c.rank_at.ensures ∙ e))

pub returns-then-count_of-ne0 : goal.returns-then-count_of-ne0
returns-then-count_of-ne0 c =
    let so_far = c.loop-entry.invariant in
    let cut = c.in-Some.ensures.steps.1 in
    ahead_counts c.args.entries.now c.args.node c.loop-entry.entry-iterator.rest.now c.in-Some.entry.now c.next.new.self.rest.now so_far.bytes so_far.so_far cut.0 (cut.1 ∙ so_far.size) (sym c.rank_at.ensures ∙ c.if-rank_at-node.false) (λ e. c.if-count_of-ne0.true (c.count_of.ensures ∙ e))

pub loop-entry-preserved : goal.loop-entry-preserved
loop-entry-preserved c =
    let so_far = c.loop-entry.invariant in
    let cut = c.in-Some.ensures.steps.1 in
    record {
      bytes = bytes_behind c.loop-entry.entry-iterator.rest.now c.in-Some.entry.now c.next.new.self.rest.now so_far.bytes cut.0;
      size = c.in-Some.ensures.steps.0 ∙ so_far.size;
      so_far = ahead_on c.args.entries.now c.args.node c.loop-entry.entry-iterator.rest.now c.in-Some.entry.now c.next.new.self.rest.now so_far.bytes so_far.so_far cut.0 (cut.1 ∙ so_far.size) (sym c.rank_at.ensures ∙ c.if-rank_at-node.false) (sym c.count_of.ensures ∙ c.if-count_of-ne0.false);
    }

pub returns : goal.returns
returns c =
    let so_far = c.loop-entry.invariant in
    let low = c.in-None.ensures.steps.1 in
    ahead_none c.args.entries.now c.args.node c.loop-entry.entry-iterator.rest.now so_far.so_far (omega (arith, low.0, so_far.size))
