-- The loop's invariant: what is left to do to the rows as they are is all that is to be done to the rows as they were.
-- Assumes nothing.
use mathlib.Core.Path.{◌≡◌, ap, ◌∙◌}
use Prim.Native.Nat.{ℕ, ◌+◌, ◌-◌, ◌^◌}
use native.Mathlib.Omega.{arith}
use lib.ListN.{get_or}
use Rattle.entries.specs.Entries.{rows}
use Rattle.book.specs.Path.{path_of}
use Rattle.entries.proofs.BookLaws.{counts_rise}
use Rattle.book.proofs.PassLaws.{pass_room, pair_room, passing_on, end_room, passing_done}
use Rattle.book.proofs.paths.add_steps.Goals as goal
use Rattle.book.proofs.paths.add_steps.Goals.{After-rank-2}

pub add_pair-requires : goal.add_pair-requires
add_pair-requires c =
    let s = c.args.entries.now.bytes.now in
    let n = c.args.entries.now.used in
    let path = c.args.path.now.steps.now in
    let i = c.loop-i.i in
    let so_far = c.loop-i.invariant.passing in
    record {
      endings_listed = so_far.endings_listed;
      counts_up_to = counts_rise (2 ^ 31 + i) (2 ^ 32 - 2) (rows c.loop-i.entries.bytes.now c.loop-i.entries.used) (omega arith) so_far.counts_fit;
      room = pair_room s n (path_of path) (pass_room path s n c.args.entries.now.ascends c.requires.room) c.loop-i.entries.bytes.now c.loop-i.entries.used i so_far (omega arith) c.rank.result c.rank-in-loop-i.result (rw c.lent-steps.ensures at c.rank.ensures) (rw c.lent-steps.ensures at c.rank-in-loop-i.ensures);
    }

pub loop-i-preserved : goal.loop-i-preserved
loop-i-preserved c =
    let s = c.args.entries.now.bytes.now in
    let n = c.args.entries.now.used in
    let path = c.args.path.now.steps.now in
    record {
      same_reference = c.add_pair.ensures.same_reference ∙ c.loop-i.invariant.same_reference;
      passing =
          passing_on s n (path_of path) (pass_room path s n c.args.entries.now.ascends c.requires.room) c.loop-i.entries.bytes.now c.loop-i.entries.used c.loop-i.i c.loop-i.invariant.passing (omega arith)
          c.rank.result c.rank-in-loop-i.result (rw c.lent-steps.ensures at c.rank.ensures) (rw c.lent-steps.ensures at c.rank-in-loop-i.ensures) c.add_pair.new.entries.bytes.now c.add_pair.new.entries.used (omega arith) c.add_pair.ensures.len c.add_pair.ensures.rewritten;
    }

-- behind the loop the rank is that of the last step
last_rank : (c : After-rank-2) → c.rank-2.result ≡ get_or (path_of c.args.path.now.steps.now) c.loop-i.i 0
last_rank c =
    let met : c.len-last.result - 1 ≡ c.loop-i.i = omega arith in
    (rw c.lent-steps.ensures at c.rank-2.ensures) ∙ ap (λ (k : ℕ). get_or (path_of c.args.path.now.steps.now) k 0) met

pub note-requires : goal.note-requires
note-requires c =
    let s = c.args.entries.now.bytes.now in
    let n = c.args.entries.now.used in
    let path = c.args.path.now.steps.now in
    let i = c.loop-i.i in
    let so_far = c.loop-i.invariant.passing in
    let a = last_rank (goal.at.note-requires c).After-rank-2 in
    record {
      counts_up_to = counts_rise (2 ^ 31 + i) (2 ^ 32 - 2) (rows c.loop-i.entries.bytes.now c.loop-i.entries.used) (omega arith) so_far.counts_fit;
      room = rw c.ending.ensures (end_room s n (path_of path) (pass_room path s n c.args.entries.now.ascends c.requires.room) c.loop-i.entries.bytes.now c.loop-i.entries.used i so_far (omega arith) c.rank-2.result a);
    }

pub returns-clause-rewritten : goal.returns-clause-rewritten
returns-clause-rewritten c =
    let e = c.args.entries.now in
    let path = c.args.path.now.steps.now in
    passing_done e.bytes.now e.used (path_of path) (pass_room path e.bytes.now e.used e.ascends c.requires.room) c.loop-i.entries.bytes.now c.loop-i.entries.used c.loop-i.i c.loop-i.invariant.passing (omega arith)
    c.rank-2.result (last_rank (goal.at.returns-clause-rewritten c).After-rank-2) c.note.new.self.bytes.now c.note.new.self.used e.ascends (rw c.ending.ensures at c.note.ensures.rewritten)
