-- Rising knots are parted by a length, and halving finds where.
use Rattle.std.proofs.Common.{rules}
use lib.Dec.{leb}
use Rattle.std.proofs.lemmas.List.Sorted.{IsPartitionPoint-from_clause}
use Rattle.baseline.proofs.KnotLaws.{knots_parted, number_parts}
use Rattle.baseline.proofs.baselines.not_above.Goals as goal

pub returns : goal.returns
returns c =
    let knots = c.args.knots.now in
    let i = c.args.i in
    let n = c.partition_point.result in
    let p =
    number_parts knots i n c.partition_point.ensures.bound
    (IsPartitionPoint-from_clause (λ knot. leb knot i) knots n c.partition_point.ensures.partitioned (knots_parted knots c.requires i) (λ a r f k. search rules)) in
    record { number = p.0; bound = c.partition_point.ensures.bound; before = p.1 }
