-- The loop's invariant: the fold so far, with none refused, and what the next add leans on.
-- Assumes nothing.
use mathlib.Core.Path.{◌≡◌, refl, sym, ap, ◌∙◌}
use Prim.Native.Nat.{◌+◌}
use native.Mathlib.Omega.{arith}
use borrow.Author.Rules.{rules}
use Rattle.std.specs.Prelude.{MatchResult}
use Rattle.std.proofs.lemmas.Result.{MatchResult-weaker, err_from_is_err_and}
use Rattle.book.specs.Batches.{lent_path, batched, next_number, with_path}
use Rattle.book.specs.Adding.{Gone}
use Rattle.book.proofs.GoingLaws.{machine, form_going}
use Rattle.book.proofs.BatchLaws.{so_far, gone_on, gone_accepted, batch_on, batch_end, batch_formed, stopped, goes_on, formed_on, no_answer, stopped_unformed, stopped_at}
use Rattle.book.specs.Form.{in_form}
use mathlib.Core.Bool.{true}
use Rattle.book.proofs.trackers.Tracker.add_paths.Goals as goal
use Rattle.book.proofs.trackers.Tracker.add_paths.Goals.{In_ok-listing}

form : (c : In_ok-listing) → in_form c.args.self c.args.book.now c.args.queue.now ≡ true
form c = formed_on c.args.self c.args.book.now c.args.queue.now _ c.listing.result c.listing.ensures.number c.in_ok-listing.ensures.cases

pub returns-in_err-listing : goal.returns-in_err-listing
returns-in_err-listing c =
    let t = c.args.self in
    let z = c.in_err-listing.field-0.0 in
    let e = err_from_is_err_and c.from_residual.result c.from_residual.ensures.1 in
    let told : MatchResult c.listing.result (λ x. ⊥) (λ r. z ≡ stopped t 0 r) = MatchResult-weaker c.listing.result c.in_err-listing.ensures.cases (λ x h. no_answer z x h) (λ r h. search (rules, h)) in
    rw (e.1, e.2) (stopped_unformed t c.args.book.now c.args.queue.now c.args.places.now c.listing.result z c.listing.ensures.number told)

pub loop-k-init : goal.loop-k-init
unfolding batched
loop-k-init c =
    let t = c.args.self in
    let s = c.args.book.now in
    let q = c.args.queue.now in
    record { accepted = omega arith; going = form_going t s q (form (goal.at.loop-k-init c).In_ok-listing); fold = refl }

pub returns-in_err-map_err : goal.returns-in_err-map_err
returns-in_err-map_err c =
    let k = c.loop-k.k-counter in
    let u = c.add_going.new.self in
    let z = c.in_err-map_err.field-0.0 in
    let e = err_from_is_err_and c.from_residual-in_err-map_err.result c.from_residual-in_err-map_err.ensures.1 in
    let told : MatchResult c.add_going.result (λ x. ⊥) (λ r. z ≡ stopped u k r) = MatchResult-weaker c.add_going.result c.in_err-map_err.ensures.cases (λ x h. no_answer z x h) (λ r h. search (rules, h)) in
    rw (e.1, e.2)
    (stopped_at c.args.self c.args.book.now c.args.queue.now c.args.places.now c.add_going.result z (form (goal.at.returns-in_err-map_err c).In_ok-listing) k (omega arith)
    c.loop-k.self c.loop-k.book c.loop-k.queue c.loop-k.invariant.fold u c.add_going.new.book c.add_going.new.queue (rw c.lent_path.ensures at c.add_going.ensures) told)

pub loop-k-preserved : goal.loop-k-preserved
loop-k-preserved c =
    let t = c.loop-k.self in
    let s = c.loop-k.book in
    let q = c.loop-k.queue in
    let places = c.args.places.now in
    let k = c.loop-k.k-counter in
    let path = lent_path places k in
    let u = c.add_going.new.self in
    let taken = goes_on _ c.add_going.result c.in_ok-map_err.ensures.cases in
    let gone : Gone t s q path 0 u c.add_going.new.book c.add_going.new.queue = rw (c.lent_path.ensures, taken) at c.add_going.ensures in
    record {
      accepted = omega (arith, c.loop-k.invariant.accepted, gone_accepted t s q path u c.add_going.new.book c.add_going.new.queue gone);
      going = gone.going;
      fold =
          batch_on next_number with_path (machine c.args.self c.args.book.now c.args.queue.now) places k (machine t s q) c.loop-k.invariant.fold (sym gone.number_is)
          ∙ ap (so_far (k + 1)) (gone_on t s q path u c.add_going.new.book c.add_going.new.queue gone);
    }

pub returns : goal.returns
returns c =
    let places = c.args.places.now in
    let start = machine c.args.self c.args.book.now c.args.queue.now in
    let n = c.div_ceil-n.result in
    let met : c.loop-k.k-counter ≡ n = omega arith in
    rw c.taken.ensures
    (batch_formed c.args.self c.args.book.now c.args.queue.now places (form (goal.at.returns c).In_ok-listing)
    (so_far n (machine c.loop-k.self c.loop-k.book c.loop-k.queue))
    (ap (batched next_number with_path start places) (sym (batch_end places n c.div_ceil-n.ensures)) ∙ rw met at c.loop-k.invariant.fold))
