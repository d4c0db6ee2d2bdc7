-- `all_node_kl` meets its contract: a check's refusal is the reading's, and where all pass the divergences of the listed nodes fill the output.
use Rattle.std.proofs.Common.{List, ap, sym, ◌∙◌}
use Rattle.std.proofs.lemmas.Result.{err_from_is_err_and}
use Rattle.priors.specs.Priors.{layer_of}
use Rattle.priors.specs.Rows.{Row}
use Rattle.divergence.specs.Nodes.{listed_nodes}
use Rattle.divergence.specs.Parts.{nodes_from}
use Rattle.divergence.specs.Readings.{nodes_of, room, all_listed, all_reading}
use Rattle.divergence.specs.Asked.{lent_output, all_telling}
use Rattle.divergence.proofs.WalkLaws.{part_all}
use Rattle.divergence.proofs.CheckLaws.{refused_by, passed_by}
use Rattle.divergence.proofs.kl_readings.all_node_kl.Goals as goal

pub returns-in_err-lent-clause-told : goal.returns-in_err-lent-clause-told
unfolding all_reading
returns-in_err-lent-clause-told c =
    let s = c.args.seen.now in
    let t = c.args.tables.now in
    let p = c.args.priors.now in
    let o = c.args.output.now in
    let out = err_from_is_err_and c.from_residual.result c.from_residual.ensures.1 in
    rw (out.1, out.2)
    (ap (all_telling (lent_output o.addresses.now o.figures.now)) (refused_by s.tracker s.book.now s.queue.now p.nodes.now p.children.now (layer_of p.floor) t.g.now t.d.now c.in_err-lent.field-0.0 (all_listed t.g.now t.d.now p.nodes.now p.children.now (layer_of p.floor) (nodes_of s.tracker s.book.now) (room o.addresses.now o.figures.now)) (c.in_err-lent.ensures {u = tt}).number))

pub returns-clause-told : goal.returns-clause-told
unfolding all_reading
returns-clause-told c =
    let s = c.args.seen.now in
    let t = c.args.tables.now in
    let p = c.args.priors.now in
    let o = c.args.output.now in
    let lent = (c.in_ok-lent.ensures {u = tt}).lent in
    let have = room o.addresses.now o.figures.now in
    c.all_listed.ensures.told
    ∙ ap (all_telling (lent_output o.addresses.now o.figures.now))
    ((λ j. all_listed (lent.g_is j) (lent.d_is j) (lent.nodes_are j) (lent.children_are j) (lent.layer_is j) (nodes_from (lent.book_is j) 0 (lent.used_is j)) have)
    ∙ ap (λ (rs : List Row). all_listed t.g.now t.d.now p.nodes.now p.children.now (layer_of p.floor) (listed_nodes rs) have) (part_all s.book.now s.tracker.used)
    ∙ passed_by s.tracker s.book.now s.queue.now p.nodes.now p.children.now (layer_of p.floor) t.g.now t.d.now (sym (c.in_ok-lent.ensures {u = tt}).number) (all_listed t.g.now t.d.now p.nodes.now p.children.now (layer_of p.floor) (nodes_of s.tracker s.book.now) have))
