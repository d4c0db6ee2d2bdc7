-- Each test of the code picks one case of the definition. Rising knots give the line its two knots; past the last there are two, since 18 does not hold.
use mathlib.Core.Path.{◌≡◌}
use Prim.Native.Nat.{◌-◌, ◌≤◌, ◌<◌}
use native.Mathlib.Omega.{arith}
use borrow.Author.Tests.{lt-ltb, le-ltb, eq-eqb, ne_eqb}
use Rattle.baseline.specs.Stats.{knot_at, figures_at, figures_after}
use Rattle.baseline.proofs.KnotLaws.{rises, two_knots_lem}
use Rattle.baseline.proofs.baselines.Baseline.figures_at.Goals as goal

pub returns-then-n-eq0 : goal.returns-then-n-eq0
unfolding figures_at figures_after
returns-then-n-eq0 c = rw (← c.not_above-n.ensures.number) (simp (eq-eqb _ _ c.if-n-eq0.true, c.no_figures.ensures))

pub returns-then-self-n : goal.returns-then-self-n
unfolding figures_at figures_after
returns-then-self-n c =
    let n = c.not_above-n.result in
    let at : knot_at c.args.self.now.knots.now (n - 1) ≡ c.args.i = omega arith in
    rw (← c.not_above-n.ensures.number) (simp (ne_eqb _ _ c.if-n-eq0.false, eq-eqb _ _ at, c.knot_figures.ensures))

pub line_figures-requires : goal.line_figures-requires
line_figures-requires c =
    let n = c.not_above-n.result in
    record { ten_each = c.requires.ten_each; two_knots = omega arith; rises = rises c.args.self.now.knots.now c.requires.rise (n - 1) (omega arith); reached = c.not_above-n.ensures.before (n - 1) (omega arith) }

pub returns-then-n-self : goal.returns-then-n-self
unfolding figures_at figures_after
returns-then-n-self c =
    let n = c.not_above-n.result in
    let at : knot_at c.args.self.now.knots.now (n - 1) ≡ c.args.i → ⊥ = λ e. omega arith in
    rw (← c.not_above-n.ensures.number) (simp (ne_eqb _ _ c.if-n-eq0.false, ne_eqb _ _ at, lt-ltb _ _ c.if-n-self.true, c.line_figures.ensures))

pub overflow_sub-n-2 : goal.overflow_sub-n-2
overflow_sub-n-2 c =
    let knots = c.args.self.now.knots.now in
    let n = c.not_above-n.result in
    let low : knot_at knots (n - 1) ≤ c.args.i = c.not_above-n.ensures.before (n - 1) (omega arith) in
    let off : knot_at knots (n - 1) ≡ c.args.i → ⊥ = λ e. omega arith in
    let past : knot_at knots (n - 1) < c.args.i = omega arith in
    two_knots_lem knots c.args.i n c.requires.not_past (omega arith) c.if-n-eq0.false past

pub line_figures-requires-2 : goal.line_figures-requires-2
line_figures-requires-2 c =
    let n = c.not_above-n.result in
    let knots = c.args.self.now.knots.now in
    let low : knot_at knots (n - 1) ≤ c.args.i = c.not_above-n.ensures.before (n - 1) (omega arith) in
    let off : knot_at knots (n - 1) ≡ c.args.i → ⊥ = λ e. omega arith in
    let past : knot_at knots (n - 1) < c.args.i = omega arith in
    let two : 2 ≤ n = two_knots_lem knots c.args.i n c.requires.not_past (omega arith) c.if-n-eq0.false past in
    record { ten_each = c.requires.ten_each; two_knots = omega arith; rises = rises c.args.self.now.knots.now c.requires.rise (n - 2) (omega arith); reached = c.not_above-n.ensures.before (n - 2) (omega arith) }

pub returns : goal.returns
unfolding figures_at figures_after
returns c =
    let n = c.not_above-n.result in
    let at : knot_at c.args.self.now.knots.now (n - 1) ≡ c.args.i → ⊥ = λ e. omega arith in
    rw (← c.not_above-n.ensures.number) (simp (ne_eqb _ _ c.if-n-eq0.false, ne_eqb _ _ at, le-ltb _ _ c.if-n-self.false, c.line_figures-2.ensures))
