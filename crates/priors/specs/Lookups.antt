-- What the code's look-up of a child answers. Assumes nothing.
use Rattle.std.specs.Prelude.{None, Result, Ok, Err}
use Rattle.priors.specs.Refusals.{reason_number}
use Rattle.priors.specs.Reading.{Reading, refused, answered}
use Rattle.priors.specs.Children.{ChildLook}
use Rattle.priors.specs.declared.refusals.Reason.{Reason}
use Rattle.priors.specs.declared.prior.ChildLookup.{ChildLookup}

abbrev pub child_look : ChildLookup → ChildLook
child_look l = record { count = l.count; read = l.read }

abbrev pub child_answer : Result ChildLookup Reason → Reading ChildLook
child_answer (Ok l) = answered (child_look l)
child_answer (Err reason) = refused (reason_number reason) None
