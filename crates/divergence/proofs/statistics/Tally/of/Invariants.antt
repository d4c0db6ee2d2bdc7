-- `of` meets its contract: the statistics so far with the walk over the nodes still to come give the reading over all nodes.
use Rattle.std.proofs.Common.{◌≡◌, ◌+◌, ◌≤◌, length}
use Rattle.entries.specs.Limits.{max_entries}
use Rattle.divergence.specs.Listing.{nodes_left}
use Rattle.divergence.specs.Statistics.{walk_by}
use Rattle.divergence.specs.Readings.{stats_reading_of}
use Rattle.divergence.proofs.WalkLaws.{tally_reading}
use Rattle.divergence.proofs.statistics.Tally.of.Given as goal

abbrev pub invariant-loop-node : goal.invariant-loop-node
invariant-loop-node l = record {
  reading_is : tally_reading l.stats l.skipped (walk_by l.by (nodes_left l.node-iterator)) ≡ stats_reading_of l.sequence_len (walk_by l.by (nodes_left l.nodes));
  counted_few : l.stats.nz_count + length (nodes_left l.node-iterator) ≤ max_entries;
  skipped_few : l.skipped + length (nodes_left l.node-iterator) ≤ max_entries;
}
