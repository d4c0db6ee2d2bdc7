-- `fill` meets its contract: the outputs with the children still to come from the next place on are the outputs with all.
use Rattle.std.proofs.Common.{◌≡◌, ◌+◌, ◌*◌, ◌≤◌, length}
use mathlib.Core.List.{flat_map}
use Rattle.priors.specs.Word.{store}
use Rattle.priors.specs.Address.{address_bytes}
use Rattle.priors.specs.Rows.{keys}
use Rattle.divergence.specs.Probability.{figures_of}
use Rattle.divergence.specs.Merging.{children_left}
use Rattle.divergence.specs.Readings.{filled_addresses, filled_figures}
use Rattle.divergence.proofs.OutputLaws.{filled_from}
use Rattle.divergence.proofs.probabilities.Merge.fill.Given as goal

abbrev pub invariant-loop-place : goal.invariant-loop-place
invariant-loop-place l = record {
  places_left : l.place-iterator.a.start + length (children_left l.place-iterator.b) ≤ l.place-iterator.a.end;
  addresses_room : 8 * (l.place-iterator.a.start + length (children_left l.place-iterator.b)) ≤ length l.output.addresses.now;
  figures_room : l.place-iterator.a.start + length (children_left l.place-iterator.b) ≤ length l.output.figures.now;
  addresses_are : store l.output.addresses.now (8 * l.place-iterator.a.start) (flat_map address_bytes (keys (children_left l.place-iterator.b))) ≡ filled_addresses (keys (children_left l.self)) l.fn.output.addresses.now;
  figures_are : filled_from l.place-iterator.a.start (figures_of l.whole (children_left l.place-iterator.b)) l.output.figures.now ≡ filled_figures (figures_of l.whole (children_left l.self)) l.fn.output.figures.now;
  same_addresses : l.output.addresses.ghost_name ≡ l.fn.output.addresses.ghost_name;
  same_figures : l.output.figures.ghost_name ≡ l.fn.output.figures.ghost_name;
}
