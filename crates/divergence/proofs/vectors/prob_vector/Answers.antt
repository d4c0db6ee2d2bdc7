-- `prob_vector` meets its contract: each return is a case of the reading, priors refused, form broken, no prior, or the vector of prior and evidence.
use Rattle.std.proofs.Common.{◌≡◌, sym, ap, ◌∙◌}
use Rattle.std.specs.Prelude.{Option, None, Some}
use Rattle.std.proofs.lemmas.Result.{err_from_is_err_and}
use Rattle.priors.specs.Address.{rank_of}
use Rattle.priors.specs.Priors.{Counts, layer_of, prior_of, prior_of_node}
use Rattle.entries.specs.Entries.{rows}
use Rattle.book.specs.Form.{in_form}
use Rattle.divergence.specs.Nodes.{listed_nodes, evidence_of}
use Rattle.divergence.specs.Listing.{evidence_in}
use Rattle.divergence.specs.Probability.{posterior}
use Rattle.divergence.specs.Readings.{form_refusal, nodes_of, vector_reading}
use Rattle.divergence.specs.Asked.{lent_output, room_in, vector_telling}
use Rattle.divergence.proofs.CheckLaws.{form_unnamed}
use Rattle.divergence.proofs.FitLaws.{prior_none, prior_found}
use Rattle.divergence.proofs.VectorLaws.{prob_refused, prob_form, prob_none, prob_some}
use Rattle.divergence.proofs.vectors.prob_vector.Goals as goal

pub returns-in_err-priors-clause-told : goal.returns-in_err-priors-clause-told
returns-in_err-priors-clause-told c =
    let s = c.args.seen.now in
    let p = c.args.priors.now in
    let o = lent_output c.args.output.now.addresses.now c.args.output.now.figures.now in
    let out = err_from_is_err_and c.from_residual.result c.from_residual.ensures.1 in
    rw (out.1, out.2)
    (sym (ap (vector_telling o) (prob_refused (form_refusal s.tracker s.book.now s.queue.now) p.nodes.now p.children.now (layer_of p.floor) (nodes_of s.tracker s.book.now) (rank_of c.args.node.scale c.args.node.point) (room_in o) c.in_err-priors.field-0.0 (c.in_err-priors.ensures {u = tt}).number)))

pub returns-in_err-listing-clause-told : goal.returns-in_err-listing-clause-told
returns-in_err-listing-clause-told c =
    let s = c.args.seen.now in
    let p = c.args.priors.now in
    let o = lent_output c.args.output.now.addresses.now c.args.output.now.figures.now in
    let out = err_from_is_err_and c.from_residual-in_err-listing.result c.from_residual-in_err-listing.ensures.1 in
    rw (out.1, out.2)
    (sym (ap (vector_telling o) (prob_form (form_refusal s.tracker s.book.now s.queue.now) p.nodes.now p.children.now (layer_of p.floor) (nodes_of s.tracker s.book.now) (rank_of c.args.node.scale c.args.node.point) (room_in o) (sym (c.in_ok-priors.ensures {u = tt}).number) c.in_err-listing.field-0.0 (c.in_err-listing.ensures {u = tt}).number (form_unnamed (in_form s.tracker s.book.now s.queue.now)))))

pub returns-in-Some-clause-told : goal.returns-in-Some-clause-told
returns-in-Some-clause-told c =
    let s = c.args.seen.now in
    let p = c.args.priors.now in
    let o = lent_output c.args.output.now.addresses.now c.args.output.now.figures.now in
    let rank = rank_of c.args.node.scale c.args.node.point in
    let listed = nodes_of s.tracker s.book.now in
    let lent = (c.in_ok-listing.ensures {u = tt}).lent in
    let given = (c.in_ok-priors.ensures {u = tt}).lent in
    let prior = c.in-Some.prior in
    let counts = prior_of_node prior.children.now prior.node in
    let found : prior_of p.nodes.now p.children.now (layer_of p.floor) rank ≡ Some counts = sym (λ j. prior_of (given.0 j) (given.1 j) (given.2 j) (c.rank-rank.ensures j)) ∙ prior_found c.in_ok-priors.priors c.rank-rank.result prior c.in-Some.ensures.found c.in-Some.ensures.lent in
    let known : evidence_in c.find.result ≡ evidence_of rank listed = c.find.ensures.evidence ∙ (λ j. evidence_of (c.rank-rank.ensures j) (listed_nodes (rows ((c.entries.ensures.bytes ∙ lent.0) j) ((c.entries.ensures.used ∙ lent.1) j)))) in
    c.posterior_vector.ensures.told
    ∙ ap (λ (e : Option Counts). vector_telling o (vector_reading (room_in o) (Some (posterior counts e)))) known
    ∙ sym (ap (vector_telling o) (prob_some (form_refusal s.tracker s.book.now s.queue.now) p.nodes.now p.children.now (layer_of p.floor) listed rank (room_in o) (sym (c.in_ok-priors.ensures {u = tt}).number) (sym (c.in_ok-listing.ensures {u = tt}).number) counts found))

pub returns-in-None-clause-told : goal.returns-in-None-clause-told
returns-in-None-clause-told c =
    let s = c.args.seen.now in
    let p = c.args.priors.now in
    let o = lent_output c.args.output.now.addresses.now c.args.output.now.figures.now in
    let rank = rank_of c.args.node.scale c.args.node.point in
    let given = (c.in_ok-priors.ensures {u = tt}).lent in
    let q = c.in_ok-priors.priors in
    let none : prior_of p.nodes.now p.children.now (layer_of p.floor) rank ≡ None = sym (λ j. prior_of (given.0 j) (given.1 j) (given.2 j) (c.rank-rank.ensures j)) ∙ prior_none q.nodes.now q.children.now q.layer c.rank-rank.result (sym c.in-None.ensures.found) in
    sym (ap (vector_telling o) (prob_none (form_refusal s.tracker s.book.now s.queue.now) p.nodes.now p.children.now (layer_of p.floor) (nodes_of s.tracker s.book.now) rank (room_in o) (sym (c.in_ok-priors.ensures {u = tt}).number) (sym (c.in_ok-listing.ensures {u = tt}).number) none))
