-- Four stores that touch are one, and their bytes are the row's.
-- Assumes nothing.
use Rattle.entries.proofs.ChangeLaws.{store_entry}
use native.Mathlib.Omega.{arith}
use Rattle.entries.proofs.entries.put_entry.Goals as goal

pub returns : goal.returns
returns c =
    cc (store_entry c.args.key (omega arith) (omega arith) c.args.s.now c.args.at c.args.count c.requires)
