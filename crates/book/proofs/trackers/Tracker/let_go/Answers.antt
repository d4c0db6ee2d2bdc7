-- Where the window is full, the part of the queue that holds the oldest path is taken away.
-- Assumes nothing.
use mathlib.Core.Path.{◌≡◌, ap, ◌∙◌}
use mathlib.Core.Logic.{inl, inr, ⊎_elim}
use Prim.Native.Nat.{ℕ, ◌+◌, ◌*◌}
use native.Mathlib.Omega.{arith}
use lib.ListN.{take, drop}
use Rattle.priors.specs.Word.{word}
use Rattle.book.specs.Path.{path_of}
use Rattle.book.specs.Calls.{next_place, steps_at}
use Rattle.book.proofs.CallLaws.{none_leaves, nothing_left, place_in, leaves_is, leaves_steps, leaves_some, leaves_part}
use Rattle.book.proofs.trackers.Tracker.let_go.Goals as goal

pub returns-then-self-eq0-clause-rewritten : goal.returns-then-self-eq0-clause-rewritten
returns-then-self-eq0-clause-rewritten c =
    nothing_left c.args.self c.args.queue.now c.args.entries.now.bytes.now c.args.entries.now.used (none_leaves c.args.self c.args.queue.now (⊎_elim inl (λ p. inr p.1) c.then-self-eq0.either))

pub steps_in-requires : goal.steps_in-requires
steps_in-requires c =
    let t = c.args.self in
    let q = c.args.queue.now in
    let place = place_in t q c.if-self-eq0.false c.requires.places_fit in
    let steps = leaves_steps t q c.if-self-eq0.false c.requires c.if-self.false in
    rw c.next_place.ensures (omega arith)

pub invariant_of-oldest : goal.invariant_of-oldest
invariant_of-oldest c =
    let t = c.args.self in
    let q = c.args.queue.now in
    let is = c.steps_in.ensures ∙ ap (λ (a : ℕ). take (8 * word q a) (drop (a + 4) q)) c.next_place.ensures in
    rw is (record { some = leaves_some t q c.if-self-eq0.false c.requires c.if-self.false })

pub returns-clause-rewritten : goal.returns-clause-rewritten
returns-clause-rewritten c =
    let t = c.args.self in
    let q = c.args.queue.now in
    let is : path_of c.steps_in.result.now ≡ steps_at q (next_place t) =
    ap path_of (c.steps_in.ensures ∙ ap (λ (a : ℕ). take (8 * word q a) (drop (a + 4) q)) c.next_place.ensures) ∙ leaves_part t q c.if-self-eq0.false c.requires c.if-self.false in
    rw (leaves_is t q c.if-self-eq0.false c.requires c.if-self.false) (rw is at c.take_away.ensures.rewritten)
