-- `child_at` meets its contract: the child's address and count are those of the entry.
use Rattle.std.proofs.Common.{◌*◌, sym, ◌∙◌, ap₂, arith}
use Rattle.priors.specs.Rows.{row}
use Rattle.divergence.proofs.NodeLaws.{child_here, count_here}
use Rattle.divergence.proofs.evidence.child_at.Goals as goal

pub returns : goal.returns
returns c =
    let book = c.args.entries.now.bytes.now in
    let at = 24 * c.args.i in
    ap₂ row (sym (child_here book at c.key.result c.key.ensures (omega arith) (omega arith))) (c.count.ensures ∙ sym (count_here book at))
