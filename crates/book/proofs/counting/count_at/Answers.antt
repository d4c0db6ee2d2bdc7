-- The loop's invariant: what is left to count in the rows as they are is all that is to be counted in the rows as they were.
-- Assumes nothing.
use mathlib.Core.Path.{◌≡◌, ◌∙◌}
use Prim.Native.Nat.{◌<◌}
use native.Mathlib.Omega.{arith}
use lib.ListN.{length, get_or, length-take}
use Rattle.std.proofs.Common.{get_or-take}
use Rattle.book.specs.Path.{path_of, counted_keys}
use Rattle.book.proofs.CountingLaws.{length_counted, counting_on, counting_done, place_used, count_fits}
use Rattle.book.proofs.counting.count_at.Goals as goal
use Rattle.book.proofs.counting.count_at.Goals.{After-from}

-- the place is the one told, and there is a key for it
told : (c : After-from) → (c.from.result ≡ get_or c.args.places.now c.loop-place.place-index 0) × (c.loop-place.place-index < length (counted_keys (path_of c.args.path.now.steps.now)))
told c =
    let low : c.loop-place.place-index < c.len.result = omega (arith, length-take c.len.result c.args.places.now) in
    (c.from.ensures ∙ get_or-take c.len.result c.args.places.now c.loop-place.place-index 0 low, omega (arith, length_counted (path_of c.args.path.now.steps.now)))

pub bump_at-requires : goal.bump_at-requires
bump_at-requires c =
    let s = c.args.entries.now.bytes.now in
    let n = c.args.entries.now.used in
    let ks = counted_keys (path_of c.args.path.now.steps.now) in
    let ps = c.args.places.now in
    let so_far = c.loop-place.invariant in
    let is = told (goal.at.bump_at-requires c).After-from in
    let used = place_used s n ks ps c.args.entries.now.in_bounds c.args.entries.now.ascends c.requires.stand c.loop-place.entries.bytes.now c.loop-place.place-index so_far.counting is.1 in
    let count = count_fits s n ks ps c.args.entries.now.in_bounds c.args.entries.now.ascends c.requires.stand c.loop-place.entries.bytes.now c.loop-place.place-index so_far.counting is.1 in
    rw is.0 (record { in_use = omega (arith, used, so_far.used); fits = omega (arith, count) })

pub loop-place-preserved : goal.loop-place-preserved
loop-place-preserved c =
    let ks = counted_keys (path_of c.args.path.now.steps.now) in
    let so_far = c.loop-place.invariant in
    let is = told (goal.at.loop-place-preserved c).After-from in
    record {
      same_reference = c.bump_at.ensures.same_reference ∙ so_far.same_reference;
      used = c.bump_at.ensures.used ∙ so_far.used;
      counting =
          counting_on c.args.entries.now.bytes.now c.args.entries.now.used ks c.args.places.now c.args.entries.now.in_bounds c.args.entries.now.ascends c.requires.stand c.loop-place.entries.bytes.now c.loop-place.place-index so_far.counting is.1 (omega arith)
          c.bump_at.new.self.bytes.now c.bump_at.ensures.len (rw is.0 at c.bump_at.ensures.bytes);
    }

pub returns-clause-rewritten : goal.returns-clause-rewritten
returns-clause-rewritten c =
    let so_far = c.loop-place.invariant in
    let number = length_counted (path_of c.args.path.now.steps.now) in
    let taken = length-take c.len.result c.args.places.now in
    rw so_far.used (counting_done c.args.entries.now.bytes.now c.args.entries.now.used (counted_keys (path_of c.args.path.now.steps.now)) c.loop-place.entries.bytes.now c.loop-place.place-index so_far.counting (omega arith))
