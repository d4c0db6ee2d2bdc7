-- A path is refused by the number that the recount gives it; one that is taken is the next that the book holds.
use mathlib.Core.Path.{◌∙◌}
use Rattle.baseline.proofs.NextLaws.{next_endings, next_counts, next_refused, next_full, next_room, next_held}
use Rattle.baseline.proofs.AnswerLaws.{handed_on}
use Rattle.baseline.proofs.training.Training.add_next.Goals as goal

pub returns-in_err-path-clause-added : goal.returns-in_err-path-clause-added
returns-in_err-path-clause-added c =
    let book = c.args.entries.now in
    let e = c.in_err-path.field-0.0 in
    rw (handed_on c.from_residual.result e c.from_residual.ensures.1)
    (next_refused c.args.self.now c.args.q c.args.i c.requires.i_below book.bytes.now book.used c.requires.holds c.path_in.result.now c.path_in.ensures e c.in_err-path.ensures.number)

pub has_room-requires : goal.has_room-requires
has_room-requires c =
    let book = c.args.entries.now in
    rw (c.as_ref.ensures.bytes, c.as_ref.ensures.used) (next_endings c.args.self.now c.args.q c.args.i c.requires.i_below book.bytes.now book.used c.requires.holds)

pub returns-then-not-has_room-clause-added : goal.returns-then-not-has_room-clause-added
returns-then-not-has_room-clause-added c =
    let book = c.args.entries.now in
    let path = c.in_ok-path.path in
    let room = rw (c.as_ref.ensures.bytes, c.as_ref.ensures.used) at c.has_room.ensures in
    next_full c.args.self.now c.args.q c.args.i c.requires.i_below book.bytes.now book.used c.requires.holds path.steps.now (c.in_ok-path.ensures.lent ∙ c.path_in.ensures) path.whole c.has_room.result room c.if-not-has_room.true

pub add_steps-requires : goal.add_steps-requires
add_steps-requires c =
    let t = c.args.self.now in
    let book = c.args.entries.now in
    let path = c.in_ok-path.path in
    let room = rw (c.as_ref.ensures.bytes, c.as_ref.ensures.used) at c.has_room.ensures in record {
      endings_listed = next_endings t c.args.q c.args.i c.requires.i_below book.bytes.now book.used c.requires.holds;
      counts_up_to = next_counts t c.args.q c.args.i c.requires.i_below book.bytes.now book.used c.requires.holds;
      room = next_room t c.args.q c.args.i c.requires.i_below book.bytes.now book.used c.requires.holds path.steps.now (c.in_ok-path.ensures.lent ∙ c.path_in.ensures) path.whole c.has_room.result room c.if-not-has_room.false;
    }

pub returns-clause-added : goal.returns-clause-added
returns-clause-added c =
    let book = c.args.entries.now in
    let after = c.add_steps.new.entries in
    let path = c.in_ok-path.path in
    let room = rw (c.as_ref.ensures.bytes, c.as_ref.ensures.used) at c.has_room.ensures in
    next_held c.args.self.now c.args.q c.args.i c.requires.i_below book.bytes.now book.used c.requires.holds path.steps.now (c.in_ok-path.ensures.lent ∙ c.path_in.ensures) path.whole c.has_room.result room c.if-not-has_room.false path.ranks after.bytes.now after.used c.add_steps.ensures.len c.add_steps.ensures.rewritten
