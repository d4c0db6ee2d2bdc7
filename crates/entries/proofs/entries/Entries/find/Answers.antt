-- Those below stand before all others, so that halving finds the place of the key.
use mathlib.Core.Path.{◌≡◌, sym, ◌∙◌}
use Rattle.std.proofs.Common.{rules}
use Rattle.priors.specs.Search.{holds, place}
use Rattle.entries.specs.Keys.{key_value}
use Rattle.entries.specs.Entries.{rows}
use Rattle.entries.proofs.HalvingLaws.{is_below, below_falls, parts_place, found_at, found_missing}
use Rattle.entries.proofs.entries.Entries.find.Goals as goal
use Rattle.entries.proofs.entries.Entries.find.Goals.{After-holds_at}

place_at : (c : After-holds_at) → place (rows c.args.self.now.bytes.now c.args.self.now.used) (key_value c.args.key) ≡ c.partition_point-i.result
place_at c =
    let e = c.args.self.now in
    let k = key_value c.args.key in
    parts_place e.bytes.now e.used k c.partition_point-i.result (c.partition_point-i.ensures (is_below e.bytes.now e.used k) (λ i b l p. search rules) (below_falls e.bytes.now e.used k e.ascends))

held_at : (c : After-holds_at) → holds (rows c.args.self.now.bytes.now c.args.self.now.used) c.partition_point-i.result (key_value c.args.key) ≡ c.holds_at.result
held_at c = rw (c.lent-lent.ensures.bytes, c.lent-lent.ensures.used) at (sym c.holds_at.ensures)

pub returns-then-holds_at : goal.returns-then-holds_at
returns-then-holds_at c =
    let d = (goal.at.returns-then-holds_at c).After-holds_at in
    sym (found_at (rows c.args.self.now.bytes.now c.args.self.now.used) (key_value c.args.key) c.partition_point-i.result (place_at d) (held_at d ∙ c.if-holds_at.true))

pub returns-else-holds_at : goal.returns-else-holds_at
returns-else-holds_at c =
    let d = (goal.at.returns-else-holds_at c).After-holds_at in
    sym (found_missing (rows c.args.self.now.bytes.now c.args.self.now.used) (key_value c.args.key) c.partition_point-i.result (place_at d) (held_at d ∙ c.if-holds_at.false))
