-- `evidence_prob_vector` meets its contract: each return is a case of the reading.
use Rattle.std.proofs.Common.{◌≡◌, ◌<◌, sym, ap, ◌∙◌, arith}
use Rattle.std.specs.Prelude.{Option, None, Some}
use Rattle.std.proofs.lemmas.Result.{err_from_is_err_and}
use Rattle.priors.specs.Address.{rank_of}
use Rattle.priors.specs.Priors.{Counts, total}
use Rattle.entries.specs.Entries.{rows}
use Rattle.book.specs.Form.{in_form}
use Rattle.divergence.specs.Nodes.{listed_nodes, evidence_of}
use Rattle.divergence.specs.Listing.{listed_node, evidence_in}
use Rattle.divergence.specs.Probability.{evidence_prob_vector}
use Rattle.divergence.specs.Merging.{counts_left}
use Rattle.divergence.specs.Readings.{form_refusal, nodes_of, room, vector_reading, evidence_reading}
use Rattle.divergence.specs.Asked.{lent_output, room_in, vector_telling}
use Rattle.divergence.proofs.CheckLaws.{form_unnamed}
use Rattle.divergence.proofs.VectorLaws.{evidence_form, evidence_formed, total_none, total_some, unlisted_none}
use Rattle.divergence.proofs.vectors.evidence_prob_vector.Goals.{After-find}
use Rattle.divergence.proofs.vectors.evidence_prob_vector.Goals as goal

-- the reading, by what the look-up gave
read : (c : After-find) (k : Option Counts) → evidence_in c.find.result ≡ k
    → evidence_reading (form_refusal c.args.seen.now.tracker c.args.seen.now.book.now c.args.seen.now.queue.now) (nodes_of c.args.seen.now.tracker c.args.seen.now.book.now) (rank_of c.args.node.scale c.args.node.point) (room c.args.output.now.addresses.now c.args.output.now.figures.now)
    ≡ vector_reading (room c.args.output.now.addresses.now c.args.output.now.figures.now) (evidence_prob_vector k)
read c k is =
    let s = c.args.seen.now in
    let o = c.args.output.now in
    let rank = rank_of c.args.node.scale c.args.node.point in
    let listed = nodes_of s.tracker s.book.now in
    let have = room o.addresses.now o.figures.now in
    let lent = (c.in_ok-listing.ensures {u = tt}).lent in
    let found : evidence_of rank listed ≡ k = sym (c.find.ensures.evidence ∙ (λ j. evidence_of (c.rank.ensures j) (listed_nodes (rows ((c.entries.ensures.bytes ∙ lent.0) j) ((c.entries.ensures.used ∙ lent.1) j))))) ∙ is in
    evidence_formed (form_refusal s.tracker s.book.now s.queue.now) listed rank have (sym (c.in_ok-listing.ensures {u = tt}).number) ∙ ap (λ (q : Option Counts). vector_reading have (evidence_prob_vector q)) found

pub returns-in_err-listing-clause-told : goal.returns-in_err-listing-clause-told
returns-in_err-listing-clause-told c =
    let s = c.args.seen.now in
    let o = lent_output c.args.output.now.addresses.now c.args.output.now.figures.now in
    let out = err_from_is_err_and c.from_residual.result c.from_residual.ensures.1 in
    rw (out.1, out.2)
    (sym (ap (vector_telling o) (evidence_form (form_refusal s.tracker s.book.now s.queue.now) (nodes_of s.tracker s.book.now) (rank_of c.args.node.scale c.args.node.point) (room_in o) c.in_err-listing.field-0.0 (c.in_err-listing.ensures {u = tt}).number (form_unnamed (in_form s.tracker s.book.now s.queue.now)))))

pub returns-in-Some-clause-told : goal.returns-in-Some-clause-told
returns-in-Some-clause-told c =
    let o = lent_output c.args.output.now.addresses.now c.args.output.now.figures.now in
    let e = (listed_node c.in-Some.listed.evidence).evidence in
    let some : 0 < total e = omega (arith, c.total.ensures, c.if-total-ne0.true) in
    let counts : counts_left c.from.result c.evidence.result ≡ e = λ j. record { ending = (c.from.ensures ∙ c.ending_count.ensures) j; children = c.evidence.ensures.left j } in
    c.vector.ensures.told
    ∙ ap (λ (k : Counts). vector_telling o (vector_reading (room_in o) (Some k))) counts
    ∙ sym (ap (vector_telling o) (read (goal.at.returns-in-Some-clause-told c).After-find (Some e) (ap evidence_in c.in-Some.is) ∙ ap (vector_reading (room_in o)) (total_some e some)))

pub returns-in_default-clause-told : goal.returns-in_default-clause-told
returns-in_default-clause-told c =
    let o = lent_output c.args.output.now.addresses.now c.args.output.now.figures.now in
    let e = (listed_node c.in-Some.listed.evidence).evidence in
    let none : total e ≡ 0 = omega (arith, c.total.ensures, c.if-total-ne0.false) in
    sym (ap (vector_telling o) (read (goal.at.returns-in_default-clause-told c).After-find (Some e) (ap evidence_in c.in-Some.is) ∙ ap (vector_reading (room_in o)) (total_none e none)))

pub returns-in_default-2-clause-told : goal.returns-in_default-2-clause-told
returns-in_default-2-clause-told c =
    let o = lent_output c.args.output.now.addresses.now c.args.output.now.figures.now in
    sym (ap (vector_telling o) (read (goal.at.returns-in_default-2-clause-told c).After-find None (ap evidence_in c.in_default.is) ∙ ap (vector_reading (room_in o)) unlisted_none))
