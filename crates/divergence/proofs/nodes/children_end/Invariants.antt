-- `children_end` meets its contract: no ending stands from i up to the place at hand.
use Rattle.std.proofs.Common.{◌≡◌, ◌+◌}
use Rattle.divergence.specs.Parts.{part, leading}
use Rattle.divergence.proofs.nodes.children_end.Given as goal

abbrev pub invariant-loop-at : goal.invariant-loop-at
invariant-loop-at l =
    l.i + leading (part l.entries.bytes.now l.i l.entries.used) ≡ l.at + leading (part l.entries.bytes.now l.at l.entries.used)
