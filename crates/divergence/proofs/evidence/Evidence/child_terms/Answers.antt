-- `child_terms` meets its contract: the sums with all terms are the sums so far with the terms still to come.
use Rattle.std.proofs.Common.{◌≡◌, ◌+◌, map, length, sym, ap, ◌∙◌, arith}
use lib.Ieee.{Float}
use Rattle.priors.specs.Rows.{count_of}
use Rattle.priors.specs.Priors.{children_of}
use Rattle.divergence.specs.declared.sums.Sums.{Sums}
use Rattle.divergence.specs.Nodes.{child_row}
use Rattle.divergence.specs.Parts.{part}
use Rattle.divergence.specs.Divergence.{prior_count, term, child_terms}
use Rattle.divergence.proofs.FitLaws.{tables_alike}
use Rattle.divergence.proofs.SumLaws.{count_le, sum_children, terms_on, terms_none}
use Rattle.divergence.proofs.evidence.Evidence.child_terms.Goals as goal

pub with_term-sums-requires : goal.with_term-sums-requires
with_term-sums-requires c =
    let child = c.child_at-child.result in
    let prior = children_of c.args.prior.now.children.now c.args.prior.now.node.link in
    let on = sum_children c.args.self.entries.bytes.now c.loop-i.i c.args.self.entries.used c.loop-i-test.true child.rank child.count c.child_at-child.ensures in
    let known : c.unwrap_or-a.result ≡ prior_count (count_of child.rank prior) = c.unwrap_or-a.ensures ∙ ap prior_count c.child.ensures.count_value in
    let small = count_le child.rank prior in
    let g = ap (λ s. length {A = Float} s) c.lent-lent.ensures.g in
    let d = ap (λ s. length {A = Float} s) c.lent-lent.ensures.d in
    let tables = c.args.tables.now in
    let alike = tables_alike tables.g.now tables.d.now tables.passed in
    record {
      posterior_in_bounds = omega (arith, on, known, small, g, c.loop-i.invariant.sum_left, c.requires.prior_total, c.requires.total_in_bounds);
      prior_in_bounds = omega (arith, known, small, d, alike, c.requires.prior_total, c.requires.total_in_bounds);
      total_in_bounds = omega (arith, d, alike, c.requires.total_in_bounds);
    }

pub loop-i-preserved : goal.loop-i-preserved
loop-i-preserved c =
    let book = c.args.self.entries.bytes.now in
    let end = c.args.self.entries.used in
    let child = c.child_at-child.result in
    let prior = children_of c.args.prior.now.children.now c.args.prior.now.node.link in
    let g = c.args.tables.now.g.now in
    let d = c.args.tables.now.d.now in
    let t = c.args.t in
    let known : c.unwrap_or-a.result ≡ prior_count (count_of child.rank prior) = c.unwrap_or-a.ensures ∙ ap prior_count c.child.ensures.count_value in
    let is : c.with_term-sums.result ≡ term g d t c.loop-i.sums (prior_count (count_of child.rank prior)) child.count = cc in
    record {
      terms_are = c.loop-i.invariant.terms_are ∙ terms_on book c.loop-i.i end c.loop-i-test.true child.rank child.count c.child_at-child.ensures g d t prior c.loop-i.sums ∙ sym (ap (λ (s : Sums). child_terms g d t prior s (map child_row (part book (c.loop-i.i + 1) end))) is);
      sum_left = omega (arith, c.loop-i.invariant.sum_left, sum_children book c.loop-i.i end c.loop-i-test.true child.rank child.count c.child_at-child.ensures);
    }

pub returns : goal.returns
returns c =
    sym (c.loop-i.invariant.terms_are ∙ terms_none c.args.self.entries.bytes.now c.loop-i.i c.args.self.entries.used c.loop-i-test.false c.args.tables.now.g.now c.args.tables.now.d.now c.args.t (children_of c.args.prior.now.children.now c.args.prior.now.node.link) c.loop-i.sums)
