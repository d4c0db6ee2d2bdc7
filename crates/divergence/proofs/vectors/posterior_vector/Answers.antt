-- `posterior_vector` meets its contract: the entries found are merged with the prior's chain; an unlisted address merges none.
use Rattle.std.proofs.Common.{◌≡◌, ◌+◌, sym, ap, ◌∙◌}
use Rattle.std.specs.Prelude.{Option, None, Some}
use Rattle.divergence.specs.declared.evidence.Listed.{Listed}
use Rattle.priors.specs.Priors.{Counts, prior_of_node}
use Rattle.divergence.specs.Listing.{listed_node, evidence_in}
use Rattle.divergence.specs.Probability.{posterior}
use Rattle.divergence.specs.Merging.{counts_left}
use Rattle.divergence.specs.Readings.{vector_reading}
use Rattle.divergence.specs.Asked.{lent_output, room_in, vector_telling}
use Rattle.divergence.proofs.vectors.posterior_vector.Goals as goal

pub returns-in-Some-clause-told : goal.returns-in-Some-clause-told
unfolding posterior
returns-in-Some-clause-told c =
    let o = lent_output c.args.output.now.addresses.now c.args.output.now.figures.now in
    let prior = prior_of_node c.args.prior.now.children.now c.args.prior.now.node in
    let e = (listed_node c.in-Some.listed.evidence).evidence in
    let counts : counts_left (c.from-count.result + c.from.result) c.both.result ≡ posterior prior (Some e) = λ j. record { ending = c.from-count.ensures j + (c.from.ensures ∙ c.ending_count.ensures) j; children = c.both.ensures.left j } in
    c.vector.ensures.told ∙ ap (λ (k : Counts). vector_telling o (vector_reading (room_in o) (Some k))) counts ∙ sym (ap (λ (v : Option Listed). vector_telling o (vector_reading (room_in o) (Some (posterior prior (evidence_in v))))) c.in-Some.is)

pub returns-in-None-clause-told : goal.returns-in-None-clause-told
unfolding posterior
returns-in-None-clause-told c =
    let o = lent_output c.args.output.now.addresses.now c.args.output.now.figures.now in
    let prior = prior_of_node c.args.prior.now.children.now c.args.prior.now.node in
    let counts : counts_left c.from-count.result c.prior.result ≡ posterior prior None = λ j. record { ending = c.from-count.ensures j; children = c.prior.ensures.left j } in
    c.vector-in-None.ensures.told ∙ ap (λ (k : Counts). vector_telling o (vector_reading (room_in o) (Some k))) counts ∙ sym (ap (λ (v : Option Listed). vector_telling o (vector_reading (room_in o) (Some (posterior prior (evidence_in v))))) c.in-None.is)
