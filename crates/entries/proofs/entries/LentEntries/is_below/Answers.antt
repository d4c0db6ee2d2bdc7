-- Keys order by their parts.
use mathlib.Core.Path.{◌≡◌, ap, ◌∙◌}
use Prim.Native.Nat.{◌*◌}
use native.Mathlib.Omega.{arith}
use lib.Dec.{ltb}
use Rattle.entries.specs.Keys.{key_value}
use Rattle.entries.specs.Entries.{key_at}
use Rattle.entries.proofs.KeyLaws.{keys_below}
use Rattle.entries.proofs.EntryLaws.{key_read}
use Rattle.entries.proofs.entries.LentEntries.is_below.Goals as goal

pub returns : goal.returns
returns c =
    let e = c.args.self.now in
    let key = c.args.key in
    let read : key_value c.key.result ≡ key_at e.bytes.now (24 * c.args.i) = ap key_value c.key.ensures ∙ key_read e.bytes.now (24 * c.args.i) in
    c.lt.ensures ∙ keys_below c.key.result key (omega arith) (omega arith) (omega arith) (omega arith) ∙ ap (λ n. ltb n (key_value key)) read
