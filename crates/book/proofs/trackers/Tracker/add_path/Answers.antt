-- Out of form it is 9; in form it is an add in a list of one, with no hints.
-- Assumes nothing.
use Rattle.std.proofs.lemmas.Result.{err_from_is_err_and}
use Rattle.book.specs.Form.{in_form}
use Rattle.book.proofs.CallLaws.{passes, fails, add_refused, out_of_form}
use Rattle.book.proofs.GoingLaws.{form_going, gone_answer, refused_answer}
use Rattle.book.proofs.trackers.Tracker.add_path.Goals as goal

pub returns-in_err-listing : goal.returns-in_err-listing
returns-in_err-listing c =
    let t = c.args.self in
    let s = c.args.book.now in
    let q = c.args.queue.now in
    let p = c.args.path.now in
    let e = err_from_is_err_and c.from_residual.result c.from_residual.ensures.1 in
    let f = fails (in_form t s q) 9 c.in_err-listing.field-0.0 c.in_err-listing.ensures.number in
    rw (e.1, e.2, f.1) (add_refused t s q p 8 (out_of_form t s q p f.0))

pub add_going-requires : goal.add_going-requires
add_going-requires c =
    let t = c.args.self in
    let s = c.args.book.now in
    let q = c.args.queue.now in
    form_going t s q (passes (in_form t s q) 8 c.in_ok-listing.ensures.number)

pub returns-in_err-add_going : goal.returns-in_err-add_going
returns-in_err-add_going c =
    let t = c.args.self in
    let s = c.args.book.now in
    let q = c.args.queue.now in
    let e = err_from_is_err_and c.from_residual-in_err-add_going.result c.from_residual-in_err-add_going.ensures.1 in
    rw (e.1, e.2)
    (refused_answer t s q c.args.path.now (passes (in_form t s q) 8 c.in_ok-listing.ensures.number) c.in_err-add_going.field-0.0 c.add_going.new.self c.add_going.new.book c.add_going.new.queue c.in_err-add_going.ensures)

pub returns : goal.returns
returns c =
    let t = c.args.self in
    let s = c.args.book.now in
    let q = c.args.queue.now in
    gone_answer t s q c.args.path.now (passes (in_form t s q) 8 c.in_ok-listing.ensures.number) c.add_going.new.self c.add_going.new.book c.add_going.new.queue c.in_ok-add_going.ensures
