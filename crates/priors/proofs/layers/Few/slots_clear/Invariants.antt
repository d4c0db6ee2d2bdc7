-- Each record below the layer in turn; heads and links name the earlier ones by their slots.
use Rattle.std.proofs.Common.{◌≡◌, ℕ, ◌<◌, length}
use mathlib.Core.Bool.{true}
use lib.ListN.{get_or}
use Rattle.priors.specs.Below.{all_below}
use Rattle.priors.specs.Priors.{clear_before}
use Rattle.priors.specs.Layer.{Latest, Linked}
use Rattle.priors.proofs.layers.Few.slots_clear.Given as goal

abbrev pub invariant-loop-i : goal.invariant-loop-i
invariant-loop-i l = record {
  clear : all_below l.i (clear_before l.self.nodes.bytes.now l.layer) ≡ true;
  latest : (x : ℕ) → x < 4096 → Latest l.self.nodes.bytes.now l.i x (get_or l.heads x 0);
  linked : Linked l.self.nodes.bytes.now l.i l.links;
  heads_len : length l.heads ≡ 4096;
  links_len : length l.links ≡ 4096;
}
