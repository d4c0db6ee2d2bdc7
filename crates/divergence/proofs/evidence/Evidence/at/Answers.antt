-- `at` meets its contract: the children end within the entries.
use Rattle.std.proofs.Common.{◌+◌, arith}
use Rattle.divergence.proofs.WalkLaws.{end_le}
use Rattle.divergence.proofs.evidence.Evidence.at.Goals as goal

pub invariant_of-entries : goal.invariant_of-entries
invariant_of-entries c =
    let e = c.args.entries in
    record { in_bounds = omega (arith, c.children_end-used.ensures, end_le e.bytes.now (c.args.ending + 1) e.used (omega (arith, c.requires)), e.in_bounds) }
