-- `child_along` meets its contract: what is still to be searched of the chain has what the whole has, and what was read and what is still to be read are what the
-- whole walk reads; where the chain ascends, that is what an exact look-up finds, and the records below the address and one more.
use native.Mathlib.Omega.{arith}
use Rattle.priors.proofs.ReadLaws.{walk_past, walk_found, walk_none, walk_ends}
use Rattle.priors.proofs.prior.child_along.Goals as goal

pub returns-then-rank-next : goal.returns-then-rank-next
returns-then-rank-next c =
    let past = walk_past _ c.requires.links_rise c.args.rank c.loop-link.link c.record_at-next.result c.record_at-next.ensures (omega arith) c.loop-link.invariant.fits (omega arith) in
    let end = walk_ends _ _ _ _ c.loop-link.read _ _ c.requires.ascending c.loop-link.invariant.found c.loop-link.invariant.counted past in
    record { count_value = end.0; read_value = end.1 }

pub returns-then-next-rank : goal.returns-then-next-rank
returns-then-next-rank c =
    let found = walk_found _ c.requires.links_rise c.args.rank c.loop-link.link c.record_at-next.result c.record_at-next.ensures (omega arith) c.loop-link.invariant.fits (omega arith) in
    let end = walk_ends _ _ _ _ c.loop-link.read _ _ c.requires.ascending c.loop-link.invariant.found c.loop-link.invariant.counted found in
    record { count_value = end.0; read_value = end.1 }

pub returns : goal.returns
returns c =
    let end = walk_ends _ _ _ _ c.loop-link.read _ _ c.requires.ascending c.loop-link.invariant.found c.loop-link.invariant.counted (walk_none c.args.children.now c.requires.links_rise c.args.rank c.loop-link.link c.loop-link-test.false) in
    record { count_value = end.0; read_value = omega (arith, end.1) }
