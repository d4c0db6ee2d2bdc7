-- What is still to be searched of the chain has what the whole has, and what was read and what is still to be read are what the whole walk reads.
use mathlib.Core.Path.{◌≡◌}
use Prim.Native.Nat.{◌+◌, ◌≤◌, ◌<◌}
use lib.ListN.{length}
use Rattle.priors.specs.Rows.{look}
use Rattle.priors.specs.Priors.{record_count, chain_of, children_of}
use Rattle.priors.proofs.ReadLaws.{walked}
use Rattle.priors.proofs.prior.child_along.Given as goal

abbrev pub invariant-loop-link : goal.invariant-loop-link
invariant-loop-link l = record {
  fits : l.link ≤ record_count l.children;
  found : look l.rank (children_of l.children l.first) ≡ look l.rank (children_of l.children l.link);
  counted : walked l.rank (children_of l.children l.first) ≡ l.read + walked l.rank (children_of l.children l.link);
  few : 0 < l.link → l.read < l.link;
}

abbrev pub decreases-loop-link : goal.decreases-loop-link
decreases-loop-link l = length (chain_of l.children l.link)
