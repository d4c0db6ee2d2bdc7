-- Tables, priors and then the sizes.
use mathlib.Core.Path.{◌≡◌, sym, ap, ◌∙◌}
use borrow.Author.Rules.{rules}
use mir.Syntax.{w32}
use mir.Val.{SFits}
use Rattle.priors.specs.Priors.{layer_of}
use Rattle.priors.specs.Layer.{floor_of}
use Rattle.priors.proofs.LayerLaws.{floor_back}
use Rattle.baseline.specs.Training.{input_of}
use Rattle.baseline.proofs.training.Training.check.Goals as goal

pub invariant_of-result : goal.invariant_of-result
invariant_of-result c =
    let f : SFits w32 c.args.priors.now.floor = search rules in
    let floor-is : floor_of c.in_ok-priors.priors.layer ≡ c.args.priors.now.floor = ap floor_of c.in_ok-priors.ensures.lent.2 ∙ floor_back c.args.priors.now.floor f in
    record { floored = ap layer_of floor-is ∙ sym c.in_ok-priors.ensures.lent.2; fits = sym c.fits.ensures ∙ c.if-not-fits.false }

pub returns-clause-lent : goal.returns-clause-lent
returns-clause-lent c =
    let s = c.args.sequences.now in
    let floor-is : floor_of c.in_ok-priors.priors.layer ≡ c.args.priors.now.floor = ap floor_of c.in_ok-priors.ensures.lent.2 ∙ floor_back c.args.priors.now.floor (search rules) in
    λ i. input_of (c.in_ok-tables.ensures.lent.0 i) (c.in_ok-tables.ensures.lent.1 i) (c.in_ok-priors.ensures.lent.0 i) (c.in_ok-priors.ensures.lent.1 i) (floor-is i) s.places.now s.count s.paths s.rate
