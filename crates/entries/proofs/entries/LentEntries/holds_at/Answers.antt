-- Two keys are the same where their parts are.
use mathlib.Core.Path.{◌≡◌, sym, ap, ◌∙◌}
use Prim.Native.Nat.{◌*◌}
use native.Mathlib.Omega.{arith}
use lib.Dec.{eqb}
use borrow.Author.Tests.{le-ltb}
use Rattle.entries.specs.Keys.{key_value}
use Rattle.entries.specs.Entries.{key_at}
use Rattle.entries.proofs.KeyLaws.{keys_same}
use Rattle.entries.proofs.EntryLaws.{key_read}
use Rattle.entries.proofs.HalvingLaws.{holds_at, holds_past}
use Rattle.entries.proofs.entries.LentEntries.holds_at.Goals as goal

pub returns-then-i-self : goal.returns-then-i-self
returns-then-i-self c =
    let e = c.args.self.now in
    let key = c.args.key in
    let read : key_value c.key.result ≡ key_at e.bytes.now (24 * c.args.i) = ap key_value c.key.ensures ∙ key_read e.bytes.now (24 * c.args.i) in
    sym (holds_at e.bytes.now e.used c.args.i (key_value key) c.eq.result c.if-i-self.true
    (c.eq.ensures ∙ keys_same c.key.result key (omega arith) (omega arith) (omega arith) (omega arith) ∙ ap (λ n. eqb n (key_value key)) read))

pub returns-else-i-self : goal.returns-else-i-self
returns-else-i-self c =
    le-ltb c.args.i c.args.self.now.used c.if-i-self.false ∙ sym (holds_past c.args.self.now.bytes.now c.args.self.now.used c.args.i (key_value c.args.key) c.if-i-self.false)
