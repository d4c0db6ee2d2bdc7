-- A key that is found counts one more; a missing one comes in.
use mathlib.Core.Path.{◌≡◌, refl}
use Prim.Native.Nat.{◌+◌, ◌-◌, ◌^◌}
use native.Mathlib.Omega.{arith}
use Rattle.std.specs.Prelude.{Ok, Err, Some}
use Rattle.entries.specs.Keys.{key_value}
use Rattle.entries.specs.Entries.{rows, find_in, entry_count_at}
use Rattle.entries.proofs.BookLaws.{found_count, found_changed, missing_alike}
use Rattle.entries.proofs.entries.EntriesMut.note.Goals as goal

pub bump_at-requires-clause-fits : goal.bump_at-requires-clause-fits
bump_at-requires-clause-fits c =
    let e = c.args.self.now in
    let at : find_in (rows e.bytes.now e.used) (key_value c.args.key) ≡ Ok c.in-Ok.i = cc in
    omega (arith, found_count e.bytes.now e.used (key_value c.args.key) c.in-Ok.i e.in_bounds at (2 ^ 32 - 2) c.requires.counts_up_to)

pub returns-in-Ok-clause-rewritten : goal.returns-in-Ok-clause-rewritten
returns-in-Ok-clause-rewritten c =
    let e = c.args.self.now in
    let k = key_value c.args.key in
    let at : find_in (rows e.bytes.now e.used) k ≡ Ok c.in-Ok.i = cc in
    rw (c.bump_at.ensures.bytes, c.bump_at.ensures.used)
    (found_changed e.bytes.now e.used k c.in-Ok.i e.in_bounds at (Some 1) (λ d. d + 1) (entry_count_at e.bytes.now c.in-Ok.i + 1) refl
    (omega (arith, found_count e.bytes.now e.used k c.in-Ok.i e.in_bounds at (2 ^ 32 - 2) c.requires.counts_up_to)))

pub returns-in-Err-clause-rewritten : goal.returns-in-Err-clause-rewritten
returns-in-Err-clause-rewritten c =
    let e = c.args.self.now in
    let k = key_value c.args.key in
    let at : find_in (rows e.bytes.now e.used) k ≡ Err c.in-Err.i = cc in
    rw (missing_alike e.bytes.now e.used k c.in-Err.i e.in_bounds at (Some 1) (λ d. d + 1) (λ d. d)) c.insert.ensures.rewritten
