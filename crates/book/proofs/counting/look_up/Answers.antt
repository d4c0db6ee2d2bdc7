-- The loop's invariant: the keys looked up so far stand at the places told.
-- Assumes nothing.
use native.Mathlib.Omega.{arith}
use lib.ListN.{get_or}
use Rattle.book.specs.Path.{path_of, counted_keys}
use Rattle.entries.specs.Entries.{rows}
use Rattle.book.proofs.CountingLaws.{length_counted, place_small}
use Rattle.book.proofs.counting.look_up.Goals as goal

pub overflow_cast-places : goal.overflow_cast-places
overflow_cast-places c =
    let rs = rows c.args.entries.now.bytes.now c.args.entries.now.used in
    omega (arith, place_small c.args.entries.now.bytes.now c.args.entries.now.used (get_or (counted_keys (path_of c.args.path.now.steps.now)) c.loop-i.i 0) c.in-Some.place (rw (c.counted_key.ensures, c.lent-steps.ensures) at c.in-Some.ensures))

pub returns : goal.returns
returns c = λ e j m. c.loop-i.invariant j (omega (arith, length_counted (path_of c.args.path.now.steps.now)))
