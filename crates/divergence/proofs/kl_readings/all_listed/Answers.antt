-- `all_listed` meets its contract: the passes come in the order of the numbers, and each node with a prior has a place.
use Rattle.std.proofs.Common.{◌≡◌, ◌/◌, ◌≤◌, length, min, refl, sym, ap, ◌∙◌, arith}
use native.Mathlib.Nat.{min-le_left, min-le_right}
use Rattle.std.proofs.lemmas.Result.{err_from_is_err_and}
use Rattle.priors.proofs.PriorLaws.{accepted}
use Rattle.divergence.specs.Statistics.{walk_by}
use Rattle.divergence.specs.Listing.{nodes_left}
use Rattle.divergence.specs.Fillings.{places_of}
use Rattle.divergence.specs.Parts.{nodes_from}
use Rattle.divergence.specs.Readings.{room, with_prior}
use Rattle.divergence.specs.Asked.{lent_output, all_telling}
use Rattle.divergence.proofs.FillLaws.{all_stopped, places_number}
use Rattle.divergence.proofs.kl_readings.all_listed.Goals.{After-of-nodes}
use Rattle.divergence.proofs.kl_readings.all_listed.Goals as goal

-- the nodes of the walk
all : (c : After-of-nodes) → nodes_left c.of-nodes.result ≡ nodes_from c.args.lent.now.listing.bytes.now 0 c.args.lent.now.listing.used
all c = c.of-nodes.ensures ∙ (λ j. nodes_from (c.lent.ensures.bytes j) 0 (c.lent.ensures.used j))

pub invariant_of-records : goal.invariant_of-records
invariant_of-records c =
    let p = c.args.lent.now.by.priors in
    record { ascending = (accepted p.nodes.now p.children.now p.layer p.passed).records_fit.ordered }

pub with_prior-requires : goal.with_prior-requires
with_prior-requires c =
    let p = c.args.lent.now.by.priors in
    (accepted p.nodes.now p.children.now p.layer p.passed).apart

pub returns-in_err-first_stop-clause-told : goal.returns-in_err-first_stop-clause-told
returns-in_err-first_stop-clause-told c =
    let t = c.args.lent.now.by.tables in
    let p = c.args.lent.now.by.priors in
    let o = c.args.output.now in
    let ns = nodes_left c.of-nodes.result in
    let have = room o.addresses.now o.figures.now in
    let enough : with_prior p.nodes.now p.children.now p.layer ns ≤ have = omega (arith, c.room.ensures, c.with_prior.ensures.by_index p.children.now, c.if-room-with_prior.false) in
    let out = err_from_is_err_and c.from_residual.result c.from_residual.ensures.1 in
    rw (out.1, out.2, sym (all (goal.at.returns-in_err-first_stop-clause-told c).After-of-nodes))
    (sym (ap (all_telling (lent_output o.addresses.now o.figures.now)) (all_stopped t.g.now t.d.now p.nodes.now p.children.now p.layer ns have enough c.in_err-first_stop.field-0.0 (sym (c.first_stop.ensures t.g.now t.d.now refl) ∙ c.in_err-first_stop.was {u = tt}))))

pub fill_all-requires : goal.fill_all-requires
fill_all-requires c =
    let t = c.args.lent.now.by.tables in
    let p = c.args.lent.now.by.priors in
    let o = c.args.output.now in
    let ns = nodes_left c.of-nodes.result in
    let unstopped = sym (c.first_stop.ensures t.g.now t.d.now refl) ∙ c.in_ok-first_stop.was {u = tt} in
    let places = places_number t.g.now t.d.now p.nodes.now p.children.now p.layer ns unstopped in
    let a = length o.addresses.now / 8 in
    let b = length o.figures.now in
    let enough : length (places_of (walk_by c.args.lent.now.by ns)) ≤ min a b = omega (arith, places, c.room.ensures, c.with_prior.ensures.by_index p.children.now, c.if-room-with_prior.false) in
    record { unstopped = unstopped; addresses_room = omega (arith, enough, min-le_left a b); figures_room = omega (arith, enough, min-le_right a b) }
