use mathlib.Core.Path.{◌≡◌, ap}
use mathlib.Core.Logic.{⊎_elim}
use mathlib.Core.Bool.{Bool}
use native.Mathlib.Omega.{arith}
use Prim.Native.Nat.{ℕ, ◌≤◌, ◌<◌}
use lib.Dec.{ltb}
use borrow.Author.Tests.{lt-ltb, ltb-true, ltb-false}
use Rattle.std.proofs.Common.{rules, tests}
use Rattle.priors.specs.Below.{Falls}
use Rattle.priors.specs.Priors.{record_at}
use Rattle.priors.proofs.RecordLaws.{ordered}
use Rattle.priors.proofs.Tests.{split}
use Rattle.priors.proofs.places.Nodes.halve.Goals as goal

pub returns : goal.returns
returns c =
    let nodes = c.args.self.now.bytes.now in
    let rank = c.args.rank in
    let below : ℕ → Bool = λ i. ltb (record_at nodes i).rank rank in
    let falls : Falls below c.args.to = λ i j h l t. lt-ltb (record_at nodes i).rank rank
    (⊎_elim (λ (m : i < j). omega (arith, ordered nodes i j c.args.self.now.ascending m (omega arith), ltb-true (record_at nodes j).rank rank t))
    (λ (m : j ≤ i). let e : i ≡ j = omega arith in omega (arith, ap (λ (k : ℕ). (record_at nodes k).rank) e, ltb-true (record_at nodes j).rank rank t)) (split i j)) in
    let parts = c.partition_point.ensures below (λ i b l post. search (rules, tests)) falls in (
      parts.from_le,
      omega (arith, parts.le_to),
      λ j h l. ltb-true (record_at nodes j).rank rank (parts.before j h l),
      λ j h l. ⊎_elim (λ (m : j < c.args.to). ltb-false (record_at nodes j).rank rank (parts.after j h m)) (λ m. c.requires.none_below j m l) (split j c.args.to),
    )
