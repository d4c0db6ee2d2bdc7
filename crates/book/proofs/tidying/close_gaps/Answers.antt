-- The loop's invariant: what is kept so far and what is left to keep are all that is kept.
-- Assumes nothing.
use mathlib.Core.Path.{◌≡◌, sym, ap, ◌∙◌}
use Prim.Native.Nat.{ℕ, ◌/◌}
use native.Mathlib.Omega.{arith}
use lib.ListN.{length}
use Rattle.book.specs.Ahead.{first_stays, rows_from}
use Rattle.book.proofs.TidyLaws.{rows_behind, closing_start, closing_past, closing_on, closing_done}
use Rattle.book.proofs.tidying.close_gaps.Goals as goal
use Rattle.book.proofs.tidying.close_gaps.Goals.{then-first_stays, else-first_stays}

pub loop-i-init : goal.loop-i-init
loop-i-init c = closing_start c.args.entries.now (length c.args.entries.now / 24)

pub loop-i-preserved : goal.loop-i-preserved
loop-i-preserved c =
    let s₀ = c.args.entries.now in
    let n = length s₀ / 24 in
    let s = c.loop-i.entries in
    let to = c.loop-i.to in
    let i = c.loop-i.i in
    let so_far = c.loop-i.invariant in
    let tells : c.first_stays.result ≡ first_stays (rows_from s n i) =
    c.first_stays.ensures ∙ ap first_stays (rows_behind s i (omega (arith, so_far.same_length)) ∙ ap (λ (l : ℕ). rows_from s (l / 24) i) so_far.same_length) in
    elim c.if-first_stays.branch [
      | then-first_stays w ↦ rw (w.entries-is, w.to-is) (closing_on s₀ n s to i (omega arith) so_far w.move_down.new.entries (omega arith) (sym tells ∙ w.if-first_stays.true) w.move_down.ensures)
      | else-first_stays w ↦ rw (w.entries-is, w.to-is) (closing_past s₀ n s to i (omega arith) so_far (sym tells ∙ w.if-first_stays.false))
    ]

pub returns-clause-result_after : goal.returns-clause-result_after
returns-clause-result_after c = closing_done c.args.entries.now (length c.args.entries.now / 24) c.loop-i.entries c.loop-i.to c.loop-i.i c.loop-i-test.false c.loop-i.invariant
