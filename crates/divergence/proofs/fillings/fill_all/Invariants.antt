-- `fill_all` meets its contract: the outputs with what the nodes still to come put from the next place on are the outputs with all nodes.
use Rattle.std.proofs.Common.{◌≡◌, ◌+◌, ◌≤◌, length}
use Rattle.entries.specs.Limits.{max_entries}
use Rattle.divergence.specs.Listing.{nodes_left}
use Rattle.divergence.specs.Statistics.{walk_by}
use Rattle.divergence.proofs.FillLaws.{FilledTo}
use Rattle.divergence.proofs.fillings.fill_all.Given as goal

abbrev pub invariant-loop-node : goal.invariant-loop-node
invariant-loop-node l = record {
  filled : FilledTo (walk_by l.by (nodes_left l.nodes)) (walk_by l.by (nodes_left l.node-iterator)) l.fn.output.addresses.now l.output.addresses.now l.fn.output.figures.now l.output.figures.now l.filled.places l.filled.skipped;
  few : l.filled.places + l.filled.skipped + length (nodes_left l.node-iterator) ≤ max_entries;
  same_addresses : l.output.addresses.ghost_name ≡ l.fn.output.addresses.ghost_name;
  same_figures : l.output.figures.ghost_name ≡ l.fn.output.figures.ghost_name;
}
