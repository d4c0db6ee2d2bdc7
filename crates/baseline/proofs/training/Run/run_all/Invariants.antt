-- The training and the place of the values stay, and the values with the sequences still to come are those at the start with all of them.
use mathlib.Core.Path.{◌≡◌}
use lib.ListN.{length}
use Rattle.baseline.specs.Courses.{input_in}
use Rattle.baseline.proofs.CourseLaws.{all_values_left}
use Rattle.baseline.proofs.training.Run.run_all.Given as goal

abbrev pub invariant-loop-q : goal.invariant-loop-q
invariant-loop-q l =
    let t = l.initial.self.training in record {
      same_training : l.self.training ≡ t;
      same_reference : l.self.values.ghost_name ≡ l.initial.self.values.ghost_name;
      to_come : all_values_left (input_in t.now) (length l.initial.book) l.q l.self.values.now ≡ all_values_left (input_in t.now) (length l.initial.book) 0 l.initial.self.values.now;
    }
