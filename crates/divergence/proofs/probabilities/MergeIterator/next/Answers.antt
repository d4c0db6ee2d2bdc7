-- `next` meets its contract: the first child is the chain's first, the entries' first or both as one, and the merge goes on after it.
use Rattle.std.proofs.Common.{◌<◌, ◌+◌, arith}
use Rattle.std.specs.declared.cmp.Ordering.TheVariants.{Less, Equal, Greater}
use Rattle.divergence.proofs.MergeLaws.{FirstMerged, held, first_as, given, compared_as, merge_ready, only_entry, only_record, record_lower, entry_lower, same_child, merged_end}
use Rattle.divergence.proofs.probabilities.MergeIterator.next.Goals.{After-child_at-child, In-Less, In-Equal, Joined-self-2, then-self-2+in-Greater, else-self-2}
use Rattle.divergence.proofs.probabilities.MergeIterator.next.Goals as goal

-- no chain is left
entry_alone : (c : After-child_at-child) → FirstMerged c.args.self.now.children.now c.args.self.now.link c.args.self.now.entries.bytes.now c.args.self.now.at c.args.self.now.entries.used c.child_at-child.result.rank c.child_at-child.result.count c.args.self.now.link (c.args.self.now.at + 1)
entry_alone c =
    let m = c.args.self.now in
    let left : m.at < m.entries.used = omega (arith, m.place_fits, c.if-self.false) in
    only_entry m.children.now m.link m.entries.bytes.now m.at m.entries.used (merge_ready m) c.if-self-eq0.true left c.child_at-child.result c.child_at-child.ensures

-- the entry's child is lower
entry_first : (c : In-Less) → FirstMerged c.args.self.now.children.now c.args.self.now.link c.args.self.now.entries.bytes.now c.args.self.now.at c.args.self.now.entries.used c.child_at-child-then-self-2.result.rank c.child_at-child-then-self-2.result.count c.args.self.now.link (c.args.self.now.at + 1)
entry_first c =
    let m = c.args.self.now in
    let child = c.child_at-child-then-self-2.result in
    let prior = c.record_at-prior.result in
    let more : 0 < m.link = omega (arith, c.if-self-eq0.false) in
    entry_lower m.children.now m.link m.entries.bytes.now m.at m.entries.used (merge_ready m) more prior c.record_at-prior.ensures c.if-self-2.true child c.child_at-child-then-self-2.ensures (compared_as child.rank prior.rank Less c.in-Less.ensures)

-- both are the same child
as_one : (c : In-Equal) → FirstMerged c.args.self.now.children.now c.args.self.now.link c.args.self.now.entries.bytes.now c.args.self.now.at c.args.self.now.entries.used c.child_at-child-then-self-2.result.rank (c.record_at-prior.result.count + c.child_at-child-then-self-2.result.count) c.record_at-prior.result.link (c.args.self.now.at + 1)
as_one c =
    let m = c.args.self.now in
    let child = c.child_at-child-then-self-2.result in
    let prior = c.record_at-prior.result in
    let more : 0 < m.link = omega (arith, c.if-self-eq0.false) in
    same_child m.children.now m.link m.entries.bytes.now m.at m.entries.used (merge_ready m) more prior c.record_at-prior.ensures c.if-self-2.true child c.child_at-child-then-self-2.ensures (compared_as child.rank prior.rank Equal c.in-Equal.ensures)

-- the chain's child is lower, or no entry is left
record_first : (c : Joined-self-2) → FirstMerged c.args.self.now.children.now c.args.self.now.link c.args.self.now.entries.bytes.now c.args.self.now.at c.args.self.now.entries.used c.record_at-prior.result.rank c.record_at-prior.result.count c.record_at-prior.result.link c.args.self.now.at
record_first c =
    let m = c.args.self.now in
    let more : 0 < m.link = omega (arith, c.if-self-eq0.false) in
    let prior = c.record_at-prior.result in
    elim c.if-self-2.branch [
      | then-self-2+in-Greater w ↦ record_lower m.children.now m.link m.entries.bytes.now m.at m.entries.used (merge_ready m) more prior c.record_at-prior.ensures w.if-self-2.true w.child_at-child-then-self-2.result w.child_at-child-then-self-2.ensures (compared_as w.child_at-child-then-self-2.result.rank prior.rank Greater w.in-Greater.ensures)
      | else-self-2 w ↦ only_record m.children.now m.link m.entries.bytes.now m.at m.entries.used (merge_ready m) more w.if-self-2.false prior c.record_at-prior.ensures
    ]

pub returns-then-self-clause-steps : goal.returns-then-self-clause-steps
returns-then-self-clause-steps c =
    let m = c.args.self.now in
    let none = merged_end m.children.now m.link m.entries.bytes.now m.at m.entries.used (merge_ready m) c.if-self-eq0.true (omega (arith, c.if-self.true)) in
    ((none, none), tt)

pub invariant_of-self : goal.invariant_of-self
invariant_of-self c =
    held (entry_alone (goal.at.invariant_of-self c).After-child_at-child).goes_on

pub returns-then-self-eq0 : goal.returns-then-self-eq0
returns-then-self-eq0 c =
    given _ _ _ (first_as (entry_alone (goal.at.returns-then-self-eq0 c).After-child_at-child) c.from.result c.from.ensures) (omega arith)

pub invariant_of-self-in-Less : goal.invariant_of-self-in-Less
invariant_of-self-in-Less c =
    held (entry_first (goal.at.invariant_of-self-in-Less c).In-Less).goes_on

pub returns-in-Less : goal.returns-in-Less
returns-in-Less c =
    given _ _ _ (first_as (entry_first (goal.at.returns-in-Less c).In-Less) c.from-in-Less.result c.from-in-Less.ensures) (omega arith)

pub invariant_of-self-in-Equal : goal.invariant_of-self-in-Equal
invariant_of-self-in-Equal c =
    held (as_one (goal.at.invariant_of-self-in-Equal c).In-Equal).goes_on

pub returns-in-Equal : goal.returns-in-Equal
returns-in-Equal c =
    given _ _ _ (first_as (as_one (goal.at.returns-in-Equal c).In-Equal) (c.from-in-Equal.result + c.from-in-Equal-2.result) (λ j. c.from-in-Equal.ensures j + c.from-in-Equal-2.ensures j)) (omega arith)

pub invariant_of-self-2 : goal.invariant_of-self-2
invariant_of-self-2 c =
    held (record_first (goal.at.invariant_of-self-2 c).Joined-self-2).goes_on

pub returns : goal.returns
returns c =
    given _ _ _ (first_as (record_first (goal.at.returns c).Joined-self-2) c.from-2.result c.from-2.ensures) (omega arith)
