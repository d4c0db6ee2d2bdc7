-- The loop's invariant: the answer of the whole is that of what is left, after the last key.
-- Assumes nothing.
use Prim.Native.Nat.{◌*◌}
use mathlib.Core.Path.{◌≡◌, sym, ◌∙◌}
use native.Mathlib.Omega.{arith}
use Rattle.entries.specs.Keys.{kind_of, key_value}
use Rattle.book.proofs.FormLaws.{kind_is, row_read, none, start_plain, start_ending, start_on, turn_plain, turn_follows, turn_on, done}
use Rattle.book.proofs.form.entries_formed.Goals as goal
use Rattle.book.proofs.form.entries_formed.Goals.{then-not-plain-via-then-not-plain, then-not-plain-via-else-not-plain+then-last-ne-ENDING, then-not-plain-2-via-then-not-plain-2, then-not-plain-2-via-else-not-plain-2+then-not-follows}

pub returns-then-used-eq0 : goal.returns-then-used-eq0
returns-then-used-eq0 c = none c.args.book.now c.args.used c.if-used-eq0.true

pub returns-then-not-plain : goal.returns-then-not-plain
returns-then-not-plain c =
    let s = c.args.book.now in
    let n = c.args.used in
    let last = c.key_of-last.result in
    let first = row_read s 0 last c.count_of.result c.key_of-last.ensures c.count_of.ensures in
    elim c.then-not-plain.branch [
      | then-not-plain-via-then-not-plain w ↦ start_plain s n (omega arith) (key_value last) c.count_of.result first (sym c.plain.ensures ∙ w.if-not-plain.true)
      | then-not-plain-via-else-not-plain+then-last-ne-ENDING w ↦
          start_ending s n (omega arith) (key_value last) c.count_of.result first (sym c.plain.ensures ∙ w.if-not-plain.false) (λ e. w.if-last-ne-ENDING.true (sym (kind_is last (omega arith) (omega arith)) ∙ e))
    ]

pub loop-i-init : goal.loop-i-init
loop-i-init c =
    let last = c.key_of-last.result in
    let first = row_read c.args.book.now 0 last c.count_of.result c.key_of-last.ensures c.count_of.ensures in
    let ending : kind_of (key_value last) ≡ 0 = kind_is last (omega arith) (omega arith) ∙ omega arith in
    start_on c.args.book.now c.args.used (omega arith) (key_value last) c.count_of.result first (sym c.plain.ensures ∙ c.if-not-plain.false) ending

pub returns-then-not-plain-2 : goal.returns-then-not-plain-2
returns-then-not-plain-2 c =
    let s = c.args.book.now in
    let n = c.args.used in
    let last = c.loop-i.last in
    let key = c.key_of-key.result in
    let count = c.count_of-in-loop-i.result in
    let turn = row_read s (24 * c.loop-i.i) key count c.key_of-key.ensures c.count_of-in-loop-i.ensures in
    elim c.then-not-plain-2.branch [
      | then-not-plain-2-via-then-not-plain-2 w ↦ turn_plain s n (key_value last) c.loop-i.i c.loop-i.invariant (omega arith) (key_value key) count turn (sym c.plain-in-loop-i.ensures ∙ w.if-not-plain-2.true)
      | then-not-plain-2-via-else-not-plain-2+then-not-follows w ↦
          turn_follows s n (key_value last) c.loop-i.i c.loop-i.invariant (omega arith) (key_value key) count turn (sym c.plain-in-loop-i.ensures ∙ w.if-not-plain-2.false) (sym w.follows.ensures ∙ w.if-not-follows.true)
    ]

pub loop-i-preserved : goal.loop-i-preserved
loop-i-preserved c =
    let key = c.key_of-key.result in
    let count = c.count_of-in-loop-i.result in
    let turn = row_read c.args.book.now (24 * c.loop-i.i) key count c.key_of-key.ensures c.count_of-in-loop-i.ensures in
    turn_on c.args.book.now c.args.used (key_value c.loop-i.last) c.loop-i.i c.loop-i.invariant (omega arith) (key_value key) count turn (sym c.plain-in-loop-i.ensures ∙ c.if-not-plain-2.false) (sym c.follows.ensures ∙ c.if-not-follows.false)

pub returns : goal.returns
returns c = done c.args.book.now c.args.used (key_value c.loop-i.last) c.loop-i.i c.loop-i.invariant c.loop-i-test.false
