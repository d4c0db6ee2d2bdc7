-- What is found stands there.
use mathlib.Core.Path.{sym, ap, ◌∙◌, subst}
use mathlib.Core.Bool.{true}
use Prim.Native.Nat.{ℕ}
use mathlib.Core.Path.{◌≡◌}
use Rattle.std.specs.Prelude.{Option, IfSome}
use Rattle.std.specs.Result.{result_ok}
use Rattle.priors.specs.Search.{holds}
use Rattle.entries.specs.Keys.{key_value}
use Rattle.entries.specs.Entries.{rows}
use Rattle.entries.proofs.HalvingLaws.{some_stands}
use Rattle.entries.proofs.hints.Hints.place_of.Goals as goal

pub returns : goal.returns
returns c =
    let rs = rows c.args.entries.now.bytes.now c.args.entries.now.used in
    let k = key_value c.args.key in
    subst (λ (o : Option ℕ). IfSome o (λ i. holds rs i k ≡ true)) (sym (c.ok.ensures.value ∙ ap result_ok c.find_hinted.ensures)) (some_stands rs k)
