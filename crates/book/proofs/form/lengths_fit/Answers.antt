-- The places are looked at one after another.
-- Assumes nothing.
use mathlib.Core.Path.{◌∙◌}
use borrow.Author.Rules.{rules}
use borrow.Author.Tests.{tests}
use native.Mathlib.Omega.{arith}
use Rattle.std.proofs.lemmas.Iterator.{YieldsList-from_range}
use Rattle.std.proofs.lemmas.Iterator.Search.{all_from_yields_List}
use Rattle.book.proofs.FormLaws.{fits, lengths_all}
use Rattle.book.proofs.form.lengths_fit.Goals as goal

pub returns : goal.returns
returns c =
    all_from_yields_List (fits c.args.queue.now) _ _ c.all.result c.all.ensures.ran (YieldsList-from_range 0 c.args.n c.args.n (search rules) (omega arith)) (λ x b q k. search (rules, tests))
    ∙ lengths_all c.args.queue.now c.args.n
