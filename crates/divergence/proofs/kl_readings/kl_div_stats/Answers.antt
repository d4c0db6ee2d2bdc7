-- `kl_div_stats` meets its contract: a check's refusal is the reading's, and where all pass the statistics are those of the listed nodes.
use Rattle.std.proofs.Common.{List, ap, sym, ◌∙◌}
use Rattle.std.proofs.lemmas.Result.{err_from_is_err_and}
use Rattle.priors.specs.Priors.{layer_of}
use Rattle.priors.specs.Rows.{Row}
use Rattle.divergence.specs.Nodes.{Node, listed_nodes}
use Rattle.divergence.specs.Parts.{nodes_from}
use Rattle.divergence.specs.Statistics.{walk, walk_by}
use Rattle.divergence.specs.Readings.{nodes_of, sequence_len, stats_reading_of, stats_reading}
use Rattle.divergence.proofs.WalkLaws.{part_all}
use Rattle.divergence.proofs.CheckLaws.{refused_by, passed_by}
use Rattle.divergence.proofs.kl_readings.kl_div_stats.Goals as goal

pub returns-in_err-lent : goal.returns-in_err-lent
unfolding stats_reading
returns-in_err-lent c =
    let s = c.args.seen.now in
    let t = c.args.tables.now in
    let p = c.args.priors.now in
    let out = err_from_is_err_and c.from_residual.result c.from_residual.ensures.1 in
    rw (out.1, out.2)
    (refused_by s.tracker s.book.now s.queue.now p.nodes.now p.children.now (layer_of p.floor) t.g.now t.d.now c.in_err-lent.field-0.0 (stats_reading_of (sequence_len s.tracker) (walk t.g.now t.d.now p.nodes.now p.children.now (layer_of p.floor) (nodes_of s.tracker s.book.now))) (c.in_err-lent.ensures {u = tt}).number)

pub returns : goal.returns
unfolding stats_reading
returns c =
    let s = c.args.seen.now in
    let t = c.args.tables.now in
    let p = c.args.priors.now in
    let lent = (c.in_ok-lent.ensures {u = tt}).lent in
    c.of.ensures
    ∙ ap (λ (ns : List Node). stats_reading_of c.sequence_len.result (walk_by c.in_ok-lent.lent.by ns)) (c.of-nodes.ensures ∙ (λ j. nodes_from (c.lent.ensures.bytes j) 0 (c.lent.ensures.used j)))
    ∙ (λ j. stats_reading_of (c.sequence_len.ensures j) (walk (lent.g_is j) (lent.d_is j) (lent.nodes_are j) (lent.children_are j) (lent.layer_is j) (nodes_from (lent.book_is j) 0 (lent.used_is j))))
    ∙ ap (λ (rs : List Row). stats_reading_of (sequence_len s.tracker) (walk t.g.now t.d.now p.nodes.now p.children.now (layer_of p.floor) (listed_nodes rs))) (part_all s.book.now s.tracker.used)
    ∙ passed_by s.tracker s.book.now s.queue.now p.nodes.now p.children.now (layer_of p.floor) t.g.now t.d.now (sym (c.in_ok-lent.ensures {u = tt}).number) (stats_reading_of (sequence_len s.tracker) (walk t.g.now t.d.now p.nodes.now p.children.now (layer_of p.floor) (nodes_of s.tracker s.book.now)))
