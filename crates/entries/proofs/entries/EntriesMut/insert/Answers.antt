-- The entry comes in where the search says that its key would go.
use Prim.Native.Nat.{◌+◌}
use Rattle.std.specs.Prelude.{Some}
use native.Mathlib.Omega.{arith}
use Rattle.entries.specs.Keys.{key_value}
use Rattle.entries.specs.Entries.{rows, Rewritten}
use Rattle.priors.specs.Rows.{change}
use Rattle.entries.proofs.BookLaws.{spot_missing, key_in_range, missing_le, changed_in, change_ascends}
use Rattle.entries.proofs.entries.EntriesMut.insert.Goals as goal
use Rattle.entries.proofs.entries.EntriesMut.insert.Goals.{After-put_in}

pub put_in-requires-clause-i_le_n : goal.put_in-requires-clause-i_le_n
put_in-requires-clause-i_le_n c =
    let e = c.args.self.now in
    missing_le e.bytes.now e.used (key_value c.args.key) c.args.i e.in_bounds (spot_missing (key_value c.args.key) c.args.i (rows e.bytes.now e.used) c.requires.missing)

came_in : (c : After-put_in) → Rewritten c.args.self.now.bytes.now c.put_in.new.s (c.args.self.now.used + 1) (change (Some c.args.count) (λ d. d) (key_value c.args.key) (rows c.args.self.now.bytes.now c.args.self.now.used))
came_in c =
    let e = c.args.self.now in
    let k = key_value c.args.key in
    rw c.put_in.ensures
    (changed_in e.bytes.now e.used k c.args.i e.in_bounds (spot_missing k c.args.i (rows e.bytes.now e.used) c.requires.missing) c.args.count (λ d. d) (key_in_range c.args.key c.args.count (omega arith) (omega arith) (omega arith) (omega arith)) c.requires.room)

pub invariant_of-self : goal.invariant_of-self
invariant_of-self c =
    let e = c.args.self.now in
    record {
      in_bounds = omega arith;
      ascends = change_ascends e.bytes.now c.put_in.new.s (e.used + 1) (key_value c.args.key) (Some c.args.count) (λ d. d) (rows e.bytes.now e.used) (came_in (goal.at.invariant_of-self c).After-put_in) e.ascends;
    }

pub returns-clause-rewritten : goal.returns-clause-rewritten
returns-clause-rewritten c = came_in (goal.at.returns-clause-rewritten c).After-put_in
