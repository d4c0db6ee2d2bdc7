-- The training and the place of the values stay, the book holds the paths so far, and the values with what is still to come are those at the start with the whole sequence.
use mathlib.Core.Path.{◌≡◌}
use Prim.Native.Nat.{◌*◌}
use lib.ListN.{length}
use Rattle.baseline.specs.Courses.{Holds}
use Rattle.baseline.proofs.NextLaws.{run_left}
use Rattle.baseline.proofs.training.Run.run_sequence.Given as goal

abbrev pub invariant-loop-i : goal.invariant-loop-i
invariant-loop-i l =
    let t = l.initial.self.training in
    let s = t.now.sequences in
    let size = length l.fn.book in record {
      same_training : l.self.training ≡ t;
      same_reference : l.self.values.ghost_name ≡ l.initial.self.values.ghost_name;
      same_size : length l.entries.bytes.now ≡ size;
      holds : Holds s.places.now (l.q * s.paths) l.i l.entries.bytes.now l.entries.used;
      to_come : run_left t.now l.q size l.i l.self.values.now ≡ run_left t.now l.q size 0 l.initial.self.values.now;
    }
