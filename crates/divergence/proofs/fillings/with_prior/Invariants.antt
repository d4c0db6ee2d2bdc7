-- `with_prior` meets its contract: the nodes counted so far and those still to come are all that have a prior.
use Rattle.std.proofs.Common.{◌≡◌, ℕ, ◌+◌, ◌≤◌, List, length}
use Rattle.divergence.specs.Listing.{nodes_left}
use Rattle.divergence.specs.Readings.{with_prior}
use Rattle.divergence.proofs.fillings.with_prior.Given as goal

abbrev pub invariant-loop-node : goal.invariant-loop-node
invariant-loop-node l = record {
  counted : (children : List ℕ) → l.n + with_prior l.records.bytes.now children l.layer (nodes_left l.node-iterator) ≡ with_prior l.records.bytes.now children l.layer (nodes_left l.nodes);
  few : l.n + length (nodes_left l.node-iterator) ≤ l.nodes.entries.used;
}
