-- `child_terms` meets its contract: the sums with all terms are the sums so far with the terms still to come.
use Rattle.std.proofs.Common.{◌≡◌, ◌+◌, ◌≤◌, map}
use Rattle.priors.specs.Priors.{children_of, count_sum}
use Rattle.divergence.specs.Nodes.{child_row}
use Rattle.divergence.specs.Parts.{part}
use Rattle.divergence.specs.Divergence.{child_terms}
use Rattle.divergence.proofs.evidence.Evidence.child_terms.Given as goal

abbrev pub invariant-loop-i : goal.invariant-loop-i
invariant-loop-i l = record {
  terms_are : child_terms l.tables.g.now l.tables.d.now l.t (children_of l.prior.children.now l.prior.node.link) l.fn.start (map child_row (part l.self.entries.bytes.now (l.self.ending + 1) l.self.entries.used))
      ≡ child_terms l.tables.g.now l.tables.d.now l.t (children_of l.prior.children.now l.prior.node.link) l.sums (map child_row (part l.self.entries.bytes.now l.i l.self.entries.used));
  sum_left : count_sum (map child_row (part l.self.entries.bytes.now l.i l.self.entries.used)) ≤ count_sum (map child_row (part l.self.entries.bytes.now (l.self.ending + 1) l.self.entries.used));
}
