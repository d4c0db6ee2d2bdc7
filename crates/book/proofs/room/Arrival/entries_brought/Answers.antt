-- A key that is found brings nothing; a missing one does where it stands for the first time.
-- Assumes nothing.
use mathlib.Core.Path.{◌≡◌, ◌∙◌}
use lib.ListN.{get_or}
use Rattle.std.specs.Prelude.{Ok, Err}
use Rattle.book.specs.Path.{path_of, listed_keys}
use Rattle.entries.specs.Entries.{rows, find_in}
use Rattle.book.proofs.RoomLaws.{found_brings, missing_brings}
use Rattle.book.proofs.room.Arrival.entries_brought.Goals as goal

pub returns-in-Ok : goal.returns-in-Ok
returns-in-Ok c =
    let rs = rows c.args.self.now.entries.bytes.now c.args.self.now.entries.used in
    let ks = listed_keys (path_of c.args.self.now.path.steps.now) in
    let at : find_in rs (get_or ks c.args.j 0) ≡ Ok c.in-Ok.field-0 = cc in
    found_brings rs ks c.args.j c.in-Ok.field-0 at

pub returns-in-Err : goal.returns-in-Err
returns-in-Err c =
    let rs = rows c.args.self.now.entries.bytes.now c.args.self.now.entries.used in
    let ks = listed_keys (path_of c.args.self.now.path.steps.now) in
    let missing : find_in rs (get_or ks c.args.j 0) ≡ Err c.in-Err.field-0 = cc in
    c.from.ensures ∙ missing_brings rs ks c.args.j c.in-Err.field-0 missing c.lists_before.result (rw (c.listed_key-key.ensures, c.lent.ensures) at c.lists_before.ensures)
