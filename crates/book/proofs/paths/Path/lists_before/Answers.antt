-- Every second key before it is looked at, the nearest first.
-- Assumes nothing.
use mathlib.Core.Path.{◌∙◌}
use Prim.Native.Nat.{◌+◌, ◌-◌, ◌*◌, ◌/◌}
use native.Mathlib.Omega.{arith}
use lib.Dec.{eqb}
use lib.ListN.{get_or}
use borrow.Author.Rules.{rules}
use borrow.Author.Tests.{tests}
use Rattle.std.proofs.lemmas.Iterator.{YieldsList-from_range}
use Rattle.std.proofs.lemmas.Iterator.Search.{any_from_yields_List}
use Rattle.entries.specs.Keys.{key_value}
use Rattle.book.specs.Path.{path_of, listed_keys}
use Rattle.book.proofs.RoomLaws.{seen_before}
use Rattle.book.proofs.paths.Path.lists_before.Goals as goal

pub returns : goal.returns
returns c =
    let p = path_of c.args.self.now.steps.now in
    let k = key_value c.args.key in
    any_from_yields_List (λ m. eqb k (get_or (listed_keys p) (c.args.j - 2 * (m + 1)) 0)) _ _ c.any.result c.any.ensures.ran (YieldsList-from_range 0 (c.args.j / 2) (c.args.j / 2) (search rules) (omega arith)) (λ x b q k. search (rules, tests))
    ∙ seen_before p c.args.self.now.ranks c.args.j c.requires.in_list k c.requires.numbered
