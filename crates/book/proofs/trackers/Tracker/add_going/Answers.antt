-- Each return has the number that its tests give; what no test turns back leaves what the next add leans on.
-- Assumes nothing.
use mathlib.Core.Path.{◌≡◌, refl, ap}
use mathlib.Core.Bool.{true}
use native.Mathlib.Omega.{arith}
use borrow.Author.Rules.{rules}
use Rattle.std.proofs.lemmas.Result.{err_from_is_err_and}
use Rattle.book.specs.Path.{path_of, whole_path}
use Rattle.book.specs.Figures.{Ranks}
use Rattle.book.specs.Adding.{next_state}
use Rattle.book.proofs.CallLaws.{fails}
use Rattle.book.proofs.GoingLaws.{book_small, used_small, counts_below, not_whole, no_more, no_room, gone_refused, gone_taken}
use Rattle.book.proofs.trackers.Tracker.add_going.Goals as goal

pub returns-in_err-path : goal.returns-in_err-path
returns-in_err-path c =
    let t = c.args.self.now in
    let s = c.args.book.now in
    let q = c.args.queue.now in
    let p = c.args.path.now in
    let e = err_from_is_err_and c.from_residual.result c.from_residual.ensures.1 in
    let f = fails (whole_path p) 10 c.in_err-path.field-0.0 c.in_err-path.ensures.number in
    rw (e.1, e.2) (gone_refused t s q p 9 c.requires (not_whole t s q p f.0) f.1 refl)

pub returns-then-self-ge-MAX_ACCEPTED : goal.returns-then-self-ge-MAX_ACCEPTED
returns-then-self-ge-MAX_ACCEPTED c =
    let t = c.args.self.now in
    let s = c.args.book.now in
    let q = c.args.queue.now in
    let p = c.args.path.now in
    let whole : whole_path p ≡ true = rw c.in_ok-path.ensures.lent at c.in_ok-path.path.whole in
    gone_refused t s q p 10 c.requires (no_more t s q p whole (omega arith)) refl refl

pub count_path-requires-clause-used_le_max_entries : goal.count_path-requires-clause-used_le_max_entries
count_path-requires-clause-used_le_max_entries c = used_small c.args.self.now c.args.book.now c.args.queue.now c.requires

pub count_path-requires-clause-counts_up_to : goal.count_path-requires-clause-counts_up_to
count_path-requires-clause-counts_up_to c = counts_below c.args.self.now c.args.book.now c.args.queue.now c.requires

pub returns-in_err-count_path : goal.returns-in_err-count_path
returns-in_err-count_path c =
    let t = c.args.self.now in
    let s = c.args.book.now in
    let q = c.args.queue.now in
    let p = c.args.path.now in
    let e = err_from_is_err_and c.from_residual-in_err-count_path.result c.from_residual-in_err-count_path.ensures.1 in
    let whole : whole_path p ≡ true = rw c.in_ok-path.ensures.lent at c.in_ok-path.path.whole in
    let out = rw c.in_ok-path.ensures.lent at c.in_err-count_path.ensures.outcome in
    rw (e.1, e.2, out.0) (gone_refused t s q p 11 c.requires (no_room t s q p whole (omega arith) out.1) refl (search (rules, out.2)))

pub overflow_cast-self-2 : goal.overflow_cast-self-2
overflow_cast-self-2 c = omega (arith, book_small c.args.self.now c.args.book.now c.args.queue.now c.requires, c.let_go.new.entries.in_bounds, c.let_go.ensures.len, c.count_path.ensures.len)

pub returns : goal.returns
returns c =
    let t = c.args.self.now in
    let s = c.args.book.now in
    let q = c.args.queue.now in
    let p = c.args.path.now in
    let whole : whole_path p ≡ true = rw c.in_ok-path.ensures.lent at c.in_ok-path.path.whole in
    let ranks : Ranks (path_of p) = rw c.in_ok-path.ensures.lent at c.in_ok-path.path.ranks in
    let out = rw c.in_ok-path.ensures.lent at c.in_ok-count_path.ensures.outcome in
    let n = c.count_path.new.entries.used in
    gone_taken t s q p c.requires whole (omega arith) out.0 ranks c.count_path.new.entries.bytes.now n c.count_path.ensures.len out.1
    c.let_go.new.entries.bytes.now c.let_go.ensures.len (rw c.let_go.ensures.used at c.let_go.ensures.rewritten) (search rules) c.type_inv.book _ (ap (next_state t) c.let_go.ensures.used) c.keep.new.queue (rw c.in_ok-path.ensures.lent at c.keep.ensures)
