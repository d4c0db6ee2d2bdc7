-- `posterior_kl_divergence` meets its contract: a check's refusal is the reading's, and where all pass the node's divergence is.
use Rattle.std.proofs.Common.{sym, ◌∙◌}
use Rattle.std.proofs.lemmas.Result.{err_from_is_err_and}
use Rattle.priors.specs.Address.{rank_of}
use Rattle.priors.specs.Priors.{layer_of}
use Rattle.entries.specs.Entries.{rows}
use Rattle.divergence.specs.Nodes.{listed_nodes, evidence_of}
use Rattle.divergence.specs.Readings.{nodes_of, of_listed, kl_reading}
use Rattle.divergence.proofs.CheckLaws.{refused_by, passed_by}
use Rattle.divergence.proofs.kl_readings.posterior_kl_divergence.Goals as goal

pub returns-in_err-lent : goal.returns-in_err-lent
unfolding kl_reading
returns-in_err-lent c =
    let s = c.args.seen.now in
    let t = c.args.tables.now in
    let p = c.args.priors.now in
    let rank = rank_of c.args.node.scale c.args.node.point in
    let out = err_from_is_err_and c.from_residual.result c.from_residual.ensures.1 in
    rw (out.1, out.2)
    (refused_by s.tracker s.book.now s.queue.now p.nodes.now p.children.now (layer_of p.floor) t.g.now t.d.now c.in_err-lent.field-0.0 (of_listed t.g.now t.d.now p.nodes.now p.children.now (layer_of p.floor) rank (evidence_of rank (nodes_of s.tracker s.book.now))) (c.in_err-lent.ensures {u = tt}).number)

pub returns : goal.returns
unfolding kl_reading
returns c =
    let s = c.args.seen.now in
    let t = c.args.tables.now in
    let p = c.args.priors.now in
    let rank = rank_of c.args.node.scale c.args.node.point in
    let lent = (c.in_ok-lent.ensures {u = tt}).lent in
    c.listed_kl.ensures
    ∙ (λ j. of_listed (lent.g_is j) (lent.d_is j) (lent.nodes_are j) (lent.children_are j) (lent.layer_is j) (c.rank.ensures j) (evidence_of (c.rank.ensures j) (listed_nodes (rows (lent.book_is j) (lent.used_is j)))))
    ∙ passed_by s.tracker s.book.now s.queue.now p.nodes.now p.children.now (layer_of p.floor) t.g.now t.d.now (sym (c.in_ok-lent.ensures {u = tt}).number) (of_listed t.g.now t.d.now p.nodes.now p.children.now (layer_of p.floor) rank (evidence_of rank (nodes_of s.tracker s.book.now)))
