-- `fill` meets its contract: the outputs with the children still to come from the next place on are the outputs with all.
use Rattle.std.proofs.Common.{ℕ, ◌≡◌, ◌+◌, ◌*◌, ◌/◌, ◌≤◌, min, suc, [], length, set, ⊎_elim, sym, refl, ap, ◌∙◌, arith, length-set}
use Rattle.std.proofs.lemmas.List.{nil_from_length}
use Rattle.std.proofs.Math.Nat.{le-min}
use mathlib.Core.List.{flat_map}
use lib.ListN.{length-map}
use Rattle.priors.specs.Word.{store}
use Rattle.priors.specs.Address.{address_bytes}
use Rattle.priors.specs.Rows.{Row, keys}
use Rattle.priors.proofs.Fields.{length_store}
use Rattle.divergence.specs.Probability.{figure, figures_of}
use Rattle.divergence.specs.Merging.{children_left}
use Rattle.divergence.proofs.OutputLaws.{filled_from, addresses_start, addresses_on, addresses_full, figures_start, figures_on, figures_full}
use Rattle.divergence.proofs.probabilities.Merge.fill.Goals.{In-None}
use Rattle.divergence.proofs.probabilities.Merge.fill.Goals as goal

-- nothing is left where the loop ends
none : (c : In-None) → children_left c.loop-place.place-iterator.b ≡ []
none c =
    ⊎_elim (λ r. nil_from_length (children_left c.loop-place.place-iterator.b) (omega (arith, r.1, c.loop-place.invariant.places_left))) (λ m. m.1.0.0) c.in-None.ensures.steps

pub loop-place-init : goal.loop-place-init
loop-place-init c =
    let all = children_left c.args.self in
    let o = c.args.output.now in
    let fits : length all ≤ min (length o.addresses.now / 8) (length o.figures.now) = le-min {a = length o.addresses.now / 8} (omega (arith, c.requires.addresses_room)) c.requires.figures_room in
    rw (c.into_iter-place-iterator.ensures.into_iter_gives, c.zip-place-items.ensures.first, c.zip-place-items.ensures.second)
    (record {
      places_left = omega (arith, c.room.ensures, fits);
      addresses_room = omega (arith, c.requires.addresses_room);
      figures_room = omega (arith, c.requires.figures_room);
      addresses_are = addresses_start o.addresses.now (keys all);
      figures_are = figures_start o.figures.now (figures_of c.args.whole all);
      same_addresses = refl;
      same_figures = refl;
    })

pub loop-place-preserved : goal.loop-place-preserved
loop-place-preserved c =
    let steps = (c.in-Some.ensures {u = tt}).steps in
    let first = steps.1.0 in
    let whole = c.args.whole in
    let place = c.loop-place.place-iterator.a.start in
    let child = c.in-Some.child in
    let rest = children_left c.next.new.self.b in
    let addresses = c.loop-place.output.addresses.now in
    let figures = c.loop-place.output.figures.now in
    let one = ap (λ rs. length {A = Row} rs) first in
    let ranks : length (keys rest) ≡ length rest = length-map rest (λ (r : Row). r.key) in
    let values : length (figures_of whole rest) ≡ length rest = length-map rest (λ (r : Row). figure r.count whole) in
    let room : 8 * place + 8 * suc (length (keys rest)) ≤ length addresses = omega (arith, one, ranks, c.loop-place.invariant.addresses_room) in
    let wide : place + suc (length (figures_of whole rest)) ≤ length figures = omega (arith, one, values, c.loop-place.invariant.figures_room) in
    let here : c.in-Some.place ≡ place = steps.0.1.1 in
    let addresses_now : c.put.new.self.addresses.now ≡ store addresses (8 * place) (address_bytes child.rank) = c.put.ensures.addresses ∙ ap (λ (k : ℕ). store addresses (8 * k) (address_bytes child.rank)) here in
    let figures_now : c.put.new.self.figures.now ≡ set figures place (figure child.count whole) = c.put.ensures.figures ∙ (λ j. set figures (here j) (c.figure.ensures j)) in
    rw steps.0.1.2
    (record {
      places_left = omega (arith, one, steps.0.0, c.loop-place.invariant.places_left);
      addresses_room = omega (arith, one, ap (λ s. length {A = _} s) addresses_now ∙ length_store addresses (8 * place) (address_bytes child.rank) (omega arith), c.loop-place.invariant.addresses_room);
      figures_room = omega (arith, one, ap (λ s. length {A = _} s) figures_now ∙ length-set figures place (figure child.count whole), c.loop-place.invariant.figures_room);
      addresses_are = rw addresses_now (addresses_on addresses place child.rank (keys rest) room ∙ ap (λ rs. store addresses (8 * place) (flat_map address_bytes (keys rs))) (sym first) ∙ c.loop-place.invariant.addresses_are);
      figures_are = rw figures_now (figures_on figures place (figure child.count whole) (figures_of whole rest) wide ∙ ap (λ rs. filled_from place (figures_of whole rs) figures) (sym first) ∙ c.loop-place.invariant.figures_are);
      same_addresses = c.put.ensures.same_addresses ∙ c.loop-place.invariant.same_addresses;
      same_figures = c.put.ensures.same_figures ∙ c.loop-place.invariant.same_figures;
    })

pub returns-clause-addresses_after : goal.returns-clause-addresses_after
returns-clause-addresses_after c =
    let left = c.loop-place.place-iterator.b in
    addresses_full c.loop-place.output.addresses.now (8 * c.loop-place.place-iterator.a.start) (keys (children_left left)) _ (ap keys (none (goal.at.returns-clause-addresses_after c).In-None)) c.loop-place.invariant.addresses_are

pub returns-clause-figures_after : goal.returns-clause-figures_after
returns-clause-figures_after c =
    let left = c.loop-place.place-iterator.b in
    figures_full c.loop-place.output.figures.now c.loop-place.place-iterator.a.start (figures_of c.args.whole (children_left left)) _ (ap (figures_of c.args.whole) (none (goal.at.returns-clause-figures_after c).In-None)) c.loop-place.invariant.figures_are
