-- `of` meets its contract: the statistics so far with the walk over the nodes still to come give the reading over all nodes.
use Rattle.std.proofs.Common.{◌≡◌, length, sym, ap, ◌∙◌, arith}
use Rattle.std.specs.Prelude.{Option, None, Some, Result, Ok, Err}
use lib.Ieee.{Float}
use Rattle.priors.specs.declared.refusals.Refusal.{Refusal}
use Rattle.priors.specs.declared.refusals.NodeReason.{NodeReason}
use Rattle.priors.specs.Refusals.{number_of, named_node}
use Rattle.divergence.specs.declared.statistics.KLDivergenceStats.{KLDivergenceStats}
use Rattle.divergence.specs.Nodes.{Node}
use Rattle.divergence.specs.Listing.{listed_node, nodes_left}
use Rattle.divergence.specs.Statistics.{walk_by, visited, noted}
use Rattle.divergence.specs.Readings.{stats_reading_of, refused}
use Rattle.divergence.proofs.WalkLaws.{nodes_number, walk_on, walk_over, tally_reading, tally_start, tally_end, tally_noted, tally_skipped, tally_stopped, noted_le}
use Rattle.divergence.proofs.statistics.Tally.of.Goals.{After-divergence}
use Rattle.divergence.proofs.statistics.Tally.of.Goals as goal

-- what the node at hand gives, with the nodes after it
on : (c : After-divergence) (x : Result (Option Float) NodeReason) → c.divergence.result ≡ x
    → tally_reading c.loop-node.stats c.loop-node.skipped (visited (listed_node c.in-Some.node).address x (walk_by c.args.by.now (nodes_left c.next.new.self))) ≡ stats_reading_of c.args.sequence_len (walk_by c.args.by.now (nodes_left c.args.nodes))
on c x is =
    sym (ap (tally_reading c.loop-node.stats c.loop-node.skipped) (walk_on c.args.by.now (listed_node c.in-Some.node) (nodes_left c.next.new.self) (nodes_left c.loop-node.node-iterator) x c.in-Some.ensures.steps (sym c.divergence.ensures ∙ is))) ∙ c.loop-node.invariant.reading_is

pub loop-node-init : goal.loop-node-init
loop-node-init c =
    let all = nodes_left c.args.nodes in
    let few = nodes_number c.args.nodes.entries.bytes.now c.args.nodes.place c.args.nodes.entries.used in
    let is = ap nodes_left c.into_iter-node-iterator.ensures.into_iter_gives in
    record {
      reading_is = (λ j. tally_reading (c.new-stats.ensures j) 0 (walk_by c.args.by.now (is j))) ∙ tally_start c.args.sequence_len (walk_by c.args.by.now all);
      counted_few = omega (arith, ap (λ (s : KLDivergenceStats). s.nz_count) c.new-stats.ensures, ap (λ ns. length {A = Node} ns) is, few, c.args.nodes.few);
      skipped_few = omega (arith, ap (λ ns. length {A = Node} ns) is, few, c.args.nodes.few);
    }

pub loop-node-preserved-in-Ok-Some : goal.loop-node-preserved-in-Ok-Some
loop-node-preserved-in-Ok-Some c =
    let at = (goal.at.loop-node-preserved-in-Ok-Some c).After-divergence in
    let rest = walk_by c.args.by.now (nodes_left c.next.new.self) in
    let stats = c.loop-node.stats in
    let x = c.in-Ok-Some.x in
    let is : c.noted-stats.result ≡ noted stats x = cc (c.noted-stats.ensures, c.in-Ok-Some.x-is) in
    record {
      reading_is = ap (λ (s : KLDivergenceStats). tally_reading s c.loop-node.skipped rest) is ∙ sym (tally_noted stats c.loop-node.skipped (listed_node c.in-Some.node).address x rest) ∙ on at (Ok (Some x)) (c.in-Ok-Some.is ∙ ap Ok c.in-Ok-Some.field-0-is);
      counted_few = omega (arith, ap (λ (s : KLDivergenceStats). s.nz_count) is, noted_le stats x, ap (λ ns. length {A = Node} ns) c.in-Some.ensures.steps, c.loop-node.invariant.counted_few);
      skipped_few = omega (arith, ap (λ ns. length {A = Node} ns) c.in-Some.ensures.steps, c.loop-node.invariant.skipped_few);
    }

pub loop-node-preserved : goal.loop-node-preserved
loop-node-preserved c =
    let at = (goal.at.loop-node-preserved c).After-divergence in
    record {
      reading_is = sym (tally_skipped c.loop-node.stats c.loop-node.skipped (listed_node c.in-Some.node).address (walk_by c.args.by.now (nodes_left c.next.new.self))) ∙ on at (Ok None) (c.in-Ok-None.is ∙ ap Ok c.in-Ok-None.field-0-is);
      counted_few = omega (arith, ap (λ ns. length {A = Node} ns) c.in-Some.ensures.steps, c.loop-node.invariant.counted_few);
      skipped_few = omega (arith, ap (λ ns. length {A = Node} ns) c.in-Some.ensures.steps, c.loop-node.invariant.skipped_few);
    }

pub returns-in-Err : goal.returns-in-Err
returns-in-Err c =
    let at = (goal.at.returns-in-Err c).After-divergence in
    ap (λ (r : Refusal). refused (number_of r) (named_node r)) c.refusal.ensures
    ∙ sym (tally_stopped c.loop-node.stats c.loop-node.skipped (listed_node c.in-Some.node).address c.in-Err.reason (walk_by c.args.by.now (nodes_left c.next.new.self)))
    ∙ on at (Err c.in-Err.reason) c.in-Err.is

pub returns : goal.returns
returns c = sym (tally_end c.loop-node.stats c.loop-node.skipped) ∙ sym (ap (tally_reading c.loop-node.stats c.loop-node.skipped) (walk_over c.args.by.now (nodes_left c.loop-node.node-iterator) c.in-None.ensures.steps.0)) ∙ c.loop-node.invariant.reading_is
