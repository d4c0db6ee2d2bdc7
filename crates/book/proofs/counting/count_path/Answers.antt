-- Where all stands, nothing is new, so there is room; else the room is looked at.
-- Assumes nothing.
use mathlib.Core.Path.{◌≡◌, refl}
use native.Mathlib.Omega.{arith}
use Rattle.book.specs.Adding.{with_listed}
use Rattle.entries.specs.Entries.{rows}
use Rattle.entries.proofs.EntryLaws.{length_rows}
use Rattle.book.proofs.CountingLaws.{all_stand}
use mathlib.Core.Bool.{true}
use Rattle.book.proofs.counting.count_path.Goals as goal
use Rattle.book.proofs.counting.count_path.Goals.{After-look_up}

nothing_new : (c : After-look_up) → c.look_up.result ≡ true → with_listed c.args.entries.now.bytes.now c.args.entries.now.used c.args.path.now.steps.now ≡ rows c.args.entries.now.bytes.now c.args.entries.now.used
nothing_new c all =
    let e = c.args.entries.now in
    let p = c.args.path.now in
    all_stand e.bytes.now e.used p.steps.now c.look_up.new.places p.ranks e.ascends c.requires.endings_listed (rw (c.as_ref.ensures.bytes, c.as_ref.ensures.used) at (c.look_up.ensures all))

pub returns-then-limit-entries-clause-outcome : goal.returns-then-limit-entries-clause-outcome
returns-then-limit-entries-clause-outcome c =
    let same = nothing_new (goal.at.returns-then-limit-entries-clause-outcome c).After-look_up c.if-look_up.true in
    (refl, rw same (omega (arith, length_rows c.args.entries.now.bytes.now c.args.entries.now.used)), refl, refl)

pub returns-then-look_up-clause-outcome : goal.returns-then-look_up-clause-outcome
returns-then-look_up-clause-outcome c =
    let same = nothing_new (goal.at.returns-then-look_up-clause-outcome c).After-look_up c.if-look_up.true in
    let number = length_rows c.args.entries.now.bytes.now c.args.entries.now.used in
    rw same (omega (arith, c.if-limit-entries.false), c.count_at.ensures.rewritten)

pub has_room-requires : goal.has_room-requires
has_room-requires c = rw (c.as_ref-2.ensures.bytes, c.as_ref-2.ensures.used) c.requires.endings_listed
