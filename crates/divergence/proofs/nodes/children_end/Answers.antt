-- `children_end` meets its contract: no ending stands from i up to the place at hand.
use Rattle.std.proofs.Common.{◌*◌, sym, ◌∙◌, arith, eq-eqb, ne_eqb}
use Rattle.entries.specs.Keys.{kind_of}
use Rattle.entries.specs.Entries.{row_at}
use Rattle.divergence.proofs.NodeLaws.{kind_here, leading_ending, leading_child, leading_none}
use Rattle.divergence.proofs.nodes.children_end.Goals as goal

pub returns-then-key-eq-ENDING : goal.returns-then-key-eq-ENDING
returns-then-key-eq-ENDING c =
    let e = c.args.entries.now in
    let at = c.loop-at.at in
    let kind = kind_here e.bytes.now (24 * at) c.key.result c.key.ensures (omega arith) (omega arith) in
    omega (arith, leading_ending e.bytes.now at e.used c.loop-at-test.true (eq-eqb (kind_of (row_at e.bytes.now (24 * at)).key) 0 (kind ∙ c.if-key-eq-ENDING.true)), c.loop-at.invariant)

pub loop-at-preserved : goal.loop-at-preserved
loop-at-preserved c =
    let e = c.args.entries.now in
    let at = c.loop-at.at in
    let kind = kind_here e.bytes.now (24 * at) c.key.result c.key.ensures (omega arith) (omega arith) in
    omega (arith, leading_child e.bytes.now at e.used c.loop-at-test.true (ne_eqb (kind_of (row_at e.bytes.now (24 * at)).key) 0 (λ z. c.if-key-eq-ENDING.false (sym kind ∙ z))), c.loop-at.invariant)

pub returns : goal.returns
returns c =
    let e = c.args.entries.now in
    omega (arith, leading_none e.bytes.now c.loop-at.at e.used c.loop-at-test.false, c.loop-at.invariant, c.loop-at.auto)
