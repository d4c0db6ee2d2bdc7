-- A lower node can't follow.
use native.Mathlib.Omega.{arith}
use borrow.Author.Tests.{le-ltb, ne_eqb}
use Rattle.book.proofs.FormLaws.{follows_is}
use Rattle.book.proofs.form.follows.Goals as goal

pub returns-then-key-last-2 : goal.returns-then-key-last-2
returns-then-key-last-2 c =
    let l = c.args.last in
    let k = c.args.key in
    let by_fields = follows_is k (omega arith) (omega arith) l (omega arith) (omega arith) in
    rw (by_fields, le-ltb l.node k.node (omega arith), ne_eqb l.node k.node (λ e. omega arith))
