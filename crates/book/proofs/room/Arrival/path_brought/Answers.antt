-- The loop's invariant: with what came in so far there are as many entries as touching the keys of the pairs looked at would leave.
-- Assumes nothing.
use mathlib.Core.Path.{◌≡◌}
use Prim.Native.Nat.{◌+◌, ◌-◌, ◌*◌}
use native.Mathlib.Omega.{arith}
use Rattle.book.specs.Path.{path_of, listed_keys}
use Rattle.entries.specs.Entries.{rows}
use Rattle.book.proofs.StepLaws.{length_listed}
use Rattle.book.proofs.RoomLaws.{brings_at_most, none_looked_at, one_looked_at, pair_looked_at, all_looked_at}
use Rattle.book.proofs.room.Arrival.path_brought.Goals as goal

pub loop-i-init : goal.loop-i-init
loop-i-init c = record { few = omega arith; so_far = omega (arith, none_looked_at c.args.self.now.entries.bytes.now c.args.self.now.entries.used (listed_keys (path_of c.args.self.now.path.steps.now))) }

pub loop-i-preserved : goal.loop-i-preserved
loop-i-preserved c =
    let rs = rows c.args.self.now.entries.bytes.now c.args.self.now.entries.used in
    let ks = listed_keys (path_of c.args.self.now.path.steps.now) in
    let number = length_listed (path_of c.args.self.now.path.steps.now) (omega arith) in
    let all = c.args.self.now.entries.used + c.loop-i.all in
    record {
      few = omega (arith, brings_at_most rs ks (2 * c.loop-i.i), brings_at_most rs ks (2 * c.loop-i.i + 1));
      so_far = omega (arith, pair_looked_at rs ks all c.loop-i.i c.loop-i.invariant.so_far (omega arith) c.pair_brought-all.result c.pair_brought-all.ensures);
    }

pub returns : goal.returns
returns c =
    let rs = rows c.args.self.now.entries.bytes.now c.args.self.now.entries.used in
    let ks = listed_keys (path_of c.args.self.now.path.steps.now) in
    let b = c.entries_brought.result in
    let number = length_listed (path_of c.args.self.now.path.steps.now) (omega arith) in
    let all = c.args.self.now.entries.used + c.loop-i.all in
    let met : c.len-last.result - 1 ≡ c.loop-i.i = omega arith in
    let last = one_looked_at rs ks all (2 * c.loop-i.i) c.loop-i.invariant.so_far (omega arith) b (rw met at c.entries_brought.ensures) in
    omega (arith, all_looked_at rs ks (all + b) (2 * c.loop-i.i + 1) last (omega arith))
