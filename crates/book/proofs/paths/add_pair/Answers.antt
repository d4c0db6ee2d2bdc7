-- A child that is found has its node's ending listed, so that touching that would change nothing. A missing one comes in behind the ending, at its place moved by it.
-- Assumes nothing.
use mathlib.Core.Path.{◌≡◌}
use Rattle.std.specs.Prelude.{Some, Ok, Err}
use Prim.Native.Nat.{◌+◌}
use native.Mathlib.Omega.{arith}
use Rattle.priors.specs.Rows.{touch}
use Rattle.priors.proofs.RowLaws.{grows}
use Rattle.entries.specs.Keys.{end_key, child_key}
use Rattle.entries.specs.Entries.{rows, find_in}
use Rattle.book.proofs.ListingForm.{end_below_child}
use Rattle.book.proofs.PassLaws.{second_after, second_missing, second_le, second_room, both_done, found_lt, found_count, found_done}
use Rattle.book.proofs.paths.add_pair.Goals as goal

pub bump_at-requires : goal.bump_at-requires
bump_at-requires c =
    let s = c.args.entries.now.bytes.now in
    let n = c.args.entries.now.used in
    let found : find_in (rows s n) (child_key c.args.node c.args.next) ≡ Ok c.in-Ok.i = cc in
    record {
      in_use = found_lt s n c.args.node c.args.next c.in-Ok.i c.args.entries.now.in_bounds found;
      fits = found_count s n c.args.node c.args.next c.in-Ok.i c.args.entries.now.in_bounds found c.requires.counts_up_to;
    }

pub touch-requires : goal.touch-requires
touch-requires c = rw c.ending.ensures (omega (arith, c.requires.room, grows (Some 1) (λ d. d + 1) (child_key c.args.node c.args.next) (touch (end_key c.args.node) (rows c.args.entries.now.bytes.now c.args.entries.now.used))))

pub overflow_sub-entries : goal.overflow_sub-entries
overflow_sub-entries c =
    second_after c.args.entries.now.bytes.now c.args.entries.now.used (end_key c.args.node) (child_key c.args.node c.args.next) c.touch.new.self.bytes.now c.touch.new.self.used (rw c.ending.ensures at c.touch.ensures.rewritten)

pub overflow_add-i : goal.overflow_add-i
overflow_add-i c =
    let s = c.args.entries.now.bytes.now in
    let n = c.args.entries.now.used in
    let missing : find_in (rows s n) (child_key c.args.node c.args.next) ≡ Err c.in-Err.i = cc in
    let s' = c.touch.new.self.bytes.now in
    let n' = c.touch.new.self.used in
    omega (arith, second_le s n (end_key c.args.node) (child_key c.args.node c.args.next) s' n' (rw c.ending.ensures at c.touch.ensures.rewritten) c.in-Err.i (end_below_child c.args.node c.args.next) missing c.touch.new.self.in_bounds)

pub insert-requires : goal.insert-requires
insert-requires c =
    let s = c.args.entries.now.bytes.now in
    let n = c.args.entries.now.used in
    let missing : find_in (rows s n) (child_key c.args.node c.args.next) ≡ Err c.in-Err.i = cc in
    let s' = c.touch.new.self.bytes.now in
    let n' = c.touch.new.self.used in
    let touched = rw c.ending.ensures at c.touch.ensures.rewritten in
    record {
      missing = rw c.child-key.ensures (second_missing s n (end_key c.args.node) (child_key c.args.node c.args.next) s' n' touched c.in-Err.i (end_below_child c.args.node c.args.next) missing);
      room = second_room s n (end_key c.args.node) (child_key c.args.node c.args.next) s' n' touched c.in-Err.i (end_below_child c.args.node c.args.next) missing c.touch.new.self.in_bounds c.requires.room c.touch.ensures.len;
    }

pub returns-in-Ok-clause-rewritten : goal.returns-in-Ok-clause-rewritten
returns-in-Ok-clause-rewritten c =
    let s = c.args.entries.now.bytes.now in
    let n = c.args.entries.now.used in
    let found : find_in (rows s n) (child_key c.args.node c.args.next) ≡ Ok c.in-Ok.i = cc in
    found_done s n c.args.node c.args.next c.in-Ok.i c.args.entries.now.in_bounds found c.requires.counts_up_to (omega arith) c.requires.endings_listed c.bump_at.new.self.bytes.now c.bump_at.new.self.used c.bump_at.ensures.bytes c.bump_at.ensures.used

pub returns-in-Err-clause-rewritten : goal.returns-in-Err-clause-rewritten
returns-in-Err-clause-rewritten c =
    let s = c.args.entries.now.bytes.now in
    let n = c.args.entries.now.used in
    let missing : find_in (rows s n) (child_key c.args.node c.args.next) ≡ Err c.in-Err.i = cc in
    both_done s n (end_key c.args.node) (child_key c.args.node c.args.next) c.touch.new.self.bytes.now c.touch.new.self.used (rw c.ending.ensures at c.touch.ensures.rewritten) c.in-Err.i (end_below_child c.args.node c.args.next) missing
    c.insert.new.self.bytes.now c.insert.new.self.used (rw c.child-key.ensures at c.insert.ensures.rewritten)
