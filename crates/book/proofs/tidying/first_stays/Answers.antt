-- Each return has the tests that led to it.
-- Assumes nothing.
use mathlib.Core.Path.{sym, ap, ◌∙◌}
use mathlib.Core.Bool.{not}
use Prim.Native.Nat.{ℕ, ◌-◌}
use lib.ListN.{length, take, drop}
use borrow.Author.Tests.{ne_eqb}
use Rattle.book.specs.Ahead.{counts_ahead, rows_in}
use Rattle.book.proofs.TidyLaws.{stays_counted, child_goes, ending_stays}
use Rattle.book.proofs.tidying.first_stays.Goals as goal

pub returns-then-count_of-ne0 : goal.returns-then-count_of-ne0
returns-then-count_of-ne0 c = ap not (ne_eqb c.count_of.result 0 c.if-count_of-ne0.true) ∙ stays_counted c.args.entries.now c.type_inv.entries c.requires (λ e. c.if-count_of-ne0.true (c.count_of.ensures ∙ e))

pub returns-then-kind_of-eq-ENDING : goal.returns-then-kind_of-eq-ENDING
returns-then-kind_of-eq-ENDING c =
    let s = c.args.entries.now in
    c.counts_ahead.ensures
    ∙ ap (λ (n : ℕ). counts_ahead n (rows_in (take (length s - 24) (drop 24 s)))) c.rank_at.ensures
    ∙ ending_stays s c.type_inv.entries c.requires (sym c.count_of.ensures ∙ c.if-count_of-ne0.false) (sym c.kind_of.ensures ∙ c.if-kind_of-eq-ENDING.true)

pub returns-else-kind_of-eq-ENDING : goal.returns-else-kind_of-eq-ENDING
returns-else-kind_of-eq-ENDING c =
    ne_eqb c.kind_of.result 0 c.if-kind_of-eq-ENDING.false
    ∙ child_goes c.args.entries.now c.type_inv.entries c.requires (sym c.count_of.ensures ∙ c.if-count_of-ne0.false) (λ e. c.if-kind_of-eq-ENDING.false (c.kind_of.ensures ∙ e))
