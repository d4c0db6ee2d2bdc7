-- `fill_all` meets its contract: the outputs with what the nodes still to come put from the next place on are the outputs with all nodes.
use Rattle.std.proofs.Common.{◌≡◌, length, sym, refl, ap, ◌∙◌, arith}
use Rattle.std.specs.Prelude.{Option, None, Some, Result, Ok, Err}
use lib.Ieee.{Float}
use Rattle.priors.specs.declared.refusals.NodeReason.{NodeReason}
use Rattle.divergence.specs.Nodes.{Node}
use Rattle.divergence.specs.Listing.{listed_node, nodes_left}
use Rattle.divergence.specs.Statistics.{visited, walk_by}
use Rattle.divergence.proofs.WalkLaws.{nodes_number, walk_on, walk_over}
use Rattle.divergence.proofs.FillLaws.{FilledTo, filled_start, filled_room, filled_put, filled_skipped, filled_refused, end_places, end_skipped, end_addresses, end_figures}
use Rattle.divergence.proofs.fillings.fill_all.Goals.{After-divergence}
use Rattle.divergence.proofs.fillings.fill_all.Goals as goal

-- what is filled where the node at hand gives this, before the nodes after it
on : (c : After-divergence) (x : Result (Option Float) NodeReason) → c.divergence.result ≡ x
    → FilledTo (walk_by c.args.by.now (nodes_left c.args.nodes)) (visited (listed_node c.in-Some.node).address x (walk_by c.args.by.now (nodes_left c.next.new.self))) c.args.output.now.addresses.now c.loop-node.output.addresses.now c.args.output.now.figures.now c.loop-node.output.figures.now c.loop-node.filled.places c.loop-node.filled.skipped
on c x is =
    rw (walk_on c.args.by.now (listed_node c.in-Some.node) (nodes_left c.next.new.self) (nodes_left c.loop-node.node-iterator) x c.in-Some.ensures.steps (sym c.divergence.ensures ∙ is)) at c.loop-node.invariant.filled

pub loop-node-init : goal.loop-node-init
loop-node-init c =
    let o = c.args.output.now in
    let is = ap nodes_left c.into_iter-node-iterator.ensures.into_iter_gives in
    record {
      filled = rw is (filled_start (walk_by c.args.by.now (nodes_left c.args.nodes)) o.addresses.now o.figures.now c.requires.unstopped);
      few = omega (arith, ap (λ ns. length {A = Node} ns) is, nodes_number c.args.nodes.entries.bytes.now c.args.nodes.place c.args.nodes.entries.used, c.args.nodes.few);
      same_addresses = refl;
      same_figures = refl;
    }

pub put-requires : goal.put-requires
put-requires c =
    let o = c.args.output.now in
    let out = c.loop-node.output in
    let sofar = on (goal.at.put-requires c).After-divergence (Ok (Some c.in-Ok-Some.x)) (c.in-Ok-Some.is ∙ ap Ok c.in-Ok-Some.field-0-is) in
    let room = filled_room (walk_by c.args.by.now (nodes_left c.args.nodes)) o.addresses.now o.figures.now c.requires.addresses_room c.requires.figures_room out.addresses.now out.figures.now c.loop-node.filled.places c.loop-node.filled.skipped (listed_node c.in-Some.node).address c.in-Ok-Some.x _ sofar in
    record { addresses_room = room.0; figures_room = room.1 }

pub loop-node-preserved-in-Ok-Some : goal.loop-node-preserved-in-Ok-Some
loop-node-preserved-in-Ok-Some c =
    let o = c.args.output.now in
    let out = c.loop-node.output in
    let sofar = on (goal.at.loop-node-preserved-in-Ok-Some c).After-divergence (Ok (Some c.in-Ok-Some.x)) (c.in-Ok-Some.is ∙ ap Ok c.in-Ok-Some.field-0-is) in
    record {
      filled = rw (c.put.ensures.addresses, c.put.ensures.figures, c.rank.ensures) (filled_put (walk_by c.args.by.now (nodes_left c.args.nodes)) o.addresses.now o.figures.now c.requires.addresses_room c.requires.figures_room out.addresses.now out.figures.now c.loop-node.filled.places c.loop-node.filled.skipped (listed_node c.in-Some.node).address c.in-Ok-Some.x _ sofar);
      few = omega (arith, ap (λ ns. length {A = Node} ns) c.in-Some.ensures.steps, c.loop-node.invariant.few);
      same_addresses = c.put.ensures.same_addresses ∙ c.loop-node.invariant.same_addresses;
      same_figures = c.put.ensures.same_figures ∙ c.loop-node.invariant.same_figures;
    }

pub loop-node-preserved : goal.loop-node-preserved
loop-node-preserved c =
    let o = c.args.output.now in
    let out = c.loop-node.output in
    let sofar = on (goal.at.loop-node-preserved c).After-divergence (Ok None) (c.in-Ok-None.is ∙ ap Ok c.in-Ok-None.field-0-is) in
    record {
      filled = filled_skipped (walk_by c.args.by.now (nodes_left c.args.nodes)) o.addresses.now o.figures.now out.addresses.now out.figures.now c.loop-node.filled.places c.loop-node.filled.skipped (listed_node c.in-Some.node).address _ sofar;
      few = omega (arith, ap (λ ns. length {A = Node} ns) c.in-Some.ensures.steps, c.loop-node.invariant.few);
      same_addresses = c.loop-node.invariant.same_addresses;
      same_figures = c.loop-node.invariant.same_figures;
    }

pub unreachable-requires : goal.unreachable-requires
unreachable-requires c =
    let o = c.args.output.now in
    let out = c.loop-node.output in
    let sofar = on (goal.at.unreachable-requires c).After-divergence (Err c.in-Err.field-0) c.in-Err.is in
    filled_refused (walk_by c.args.by.now (nodes_left c.args.nodes)) o.addresses.now o.figures.now out.addresses.now out.figures.now c.loop-node.filled.places c.loop-node.filled.skipped (listed_node c.in-Some.node).address c.in-Err.field-0 _ sofar

pub returns : goal.returns
returns c =
    let o = c.args.output.now in
    let out = c.loop-node.output in
    let whole = walk_by c.args.by.now (nodes_left c.args.nodes) in
    let sofar = rw (walk_over c.args.by.now (nodes_left c.loop-node.node-iterator) c.in-None.ensures.steps.0) at c.loop-node.invariant.filled in
    record {
      same_addresses = c.loop-node.invariant.same_addresses;
      same_figures = c.loop-node.invariant.same_figures;
      places = end_places whole o.addresses.now o.figures.now out.addresses.now out.figures.now c.loop-node.filled.places c.loop-node.filled.skipped sofar;
      skipped = end_skipped whole o.addresses.now o.figures.now out.addresses.now out.figures.now c.loop-node.filled.places c.loop-node.filled.skipped sofar;
      addresses_after = end_addresses whole o.addresses.now o.figures.now out.addresses.now out.figures.now c.loop-node.filled.places c.loop-node.filled.skipped sofar;
      figures_after = end_figures whole o.addresses.now o.figures.now out.addresses.now out.figures.now c.loop-node.filled.places c.loop-node.filled.skipped sofar;
    }
