-- The loop's invariant: what is left to take from the rows as they are is all that is to be taken from the rows as they were.
-- Assumes nothing.
use mathlib.Core.Path.{◌∙◌}
use native.Mathlib.Omega.{arith}
use Rattle.book.specs.Path.{path_of, counted_keys}
use Rattle.book.proofs.CountingLaws.{length_counted}
use Rattle.book.proofs.PassLaws.{fading_on, fading_done}
use Rattle.book.proofs.paths.take_away.Goals as goal

pub loop-i-preserved : goal.loop-i-preserved
loop-i-preserved c =
    let so_far = c.loop-i.invariant in
    let ks = counted_keys (path_of c.args.steps.now.bytes.now) in
    let number = length_counted (path_of c.args.steps.now.bytes.now) in
    record {
      same_reference = c.fade.ensures.same_reference ∙ so_far.same_reference;
      used = c.fade.ensures.used ∙ so_far.used;
      fading =
          fading_on c.args.entries.now.bytes.now c.args.entries.now.used ks c.loop-i.entries.bytes.now c.loop-i.i so_far.fading (omega arith) c.fade.new.self.bytes.now c.fade.ensures.len
          (rw (c.counted_key.ensures, c.fade.ensures.used, so_far.used) at c.fade.ensures.rewritten);
    }

pub returns-clause-rewritten : goal.returns-clause-rewritten
returns-clause-rewritten c =
    let so_far = c.loop-i.invariant in
    let number = length_counted (path_of c.args.steps.now.bytes.now) in
    rw so_far.used (fading_done c.args.entries.now.bytes.now c.args.entries.now.used (counted_keys (path_of c.args.steps.now.bytes.now)) c.loop-i.entries.bytes.now c.loop-i.i so_far.fading (omega arith))
