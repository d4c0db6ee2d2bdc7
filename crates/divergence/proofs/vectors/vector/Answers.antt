-- `vector` meets its contract: the places are the children's, and the figures are those of the counts.
use Rattle.std.proofs.Common.{◌≡◌, ℕ, ◌+◌, ◌≤◌, length, ap, ◌∙◌, arith}
use Rattle.priors.specs.Priors.{count_sum, total}
use Rattle.divergence.specs.declared.probabilities.Size.{Size}
use Rattle.divergence.specs.Probability.{figure, figures_of}
use Rattle.divergence.specs.Merging.{counts_left}
use Rattle.divergence.specs.Readings.{answered, room, filled_figures}
use Rattle.divergence.specs.Asked.{lent_output}
use Rattle.divergence.proofs.VectorLaws.{vector_fits}
use Rattle.divergence.proofs.vectors.vector.Goals as goal

pub returns-clause-told : goal.returns-clause-told
unfolding total
returns-clause-told c =
    let o = c.args.output.now in
    let counts = counts_left c.args.ending c.args.merge in
    let places : c.size-size.result.places ≡ length counts.children = ap (λ (z : Size). z.places) c.size-size.ensures.value in
    let sum : c.size-size.result.sum ≡ count_sum counts.children = ap (λ (z : Size). z.sum) c.size-size.ensures.value in
    let whole : c.args.ending + c.size-size.result.sum ≡ total counts = ap (λ (n : ℕ). c.args.ending + n) sum in
    let enough : length counts.children ≤ room o.addresses.now o.figures.now = omega (arith, places, c.room.ensures, c.if-room-size.false) in
    rw (vector_fits (room o.addresses.now o.figures.now) counts enough)
    (λ j. record {
      answer = answered (record { places = places j; ending = (c.figure.ensures ∙ ap (figure c.args.ending) whole) j });
      output = lent_output (c.fill.ensures.addresses_after j) ((c.fill.ensures.figures_after ∙ ap (λ (n : ℕ). filled_figures (figures_of n counts.children) o.figures.now) whole) j);
    })
