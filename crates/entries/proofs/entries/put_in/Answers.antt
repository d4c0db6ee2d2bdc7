-- The gap is opened once and filled with the entry's bytes.
use Rattle.priors.specs.Rows.{row}
use Rattle.entries.specs.Keys.{key_value}
use Rattle.entries.proofs.ChangeLaws.{gap_filled}
use Rattle.entries.proofs.entries.put_in.Goals as goal

pub returns : goal.returns
returns c =
    cc (gap_filled c.args.s.now c.args.n c.args.i (row (key_value c.args.key) c.args.count) c.requires.i_le_n c.requires.room)
