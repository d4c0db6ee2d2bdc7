-- `with_prior` meets its contract: the nodes counted so far and those still to come are all that have a prior.
use Rattle.std.proofs.Common.{◌≡◌, ℕ, ◌+◌, Bool, cond, List, length, sym, ap, ◌∙◌, arith}
use Rattle.std.specs.Prelude.{is_some}
use Rattle.divergence.specs.Nodes.{Node}
use Rattle.divergence.specs.Listing.{listed_node, nodes_left}
use Rattle.divergence.specs.Readings.{with_prior}
use Rattle.divergence.proofs.WalkLaws.{nodes_number}
use Rattle.divergence.proofs.FillLaws.{priors_next, priors_end, record_counted}
use Rattle.divergence.proofs.fillings.with_prior.Goals.{After-find}
use Rattle.divergence.proofs.fillings.with_prior.Goals as goal

-- the nodes left, with the node at hand
on : (c : After-find) (b : Bool) → is_some c.find.result ≡ b → (children : List ℕ)
    → with_prior c.args.records.now.bytes.now children c.args.layer (nodes_left c.loop-node.node-iterator) ≡ cond b 1 0 + with_prior c.args.records.now.bytes.now children c.args.layer (nodes_left c.next.new.self)
on c b is children =
    let nodes = c.args.records.now.bytes.now in
    let n = listed_node c.in-Some.node in
    priors_next nodes children c.args.layer n (nodes_left c.next.new.self) (nodes_left c.loop-node.node-iterator) c.in-Some.ensures.steps
    ∙ ap (λ (k : ℕ). k + with_prior nodes children c.args.layer (nodes_left c.next.new.self)) (record_counted nodes children c.args.layer n.address c.find.result b (rw c.rank.ensures at c.find.ensures) is)

pub loop-node-init : goal.loop-node-init
loop-node-init c =
    let e = c.args.nodes.entries in
    record {
      counted = λ children. omega (arith, ap (λ w. with_prior c.args.records.now.bytes.now children c.args.layer (nodes_left w)) c.into_iter-node-iterator.ensures.into_iter_gives);
      few = omega (arith, ap (λ w. length {A = Node} (nodes_left w)) c.into_iter-node-iterator.ensures.into_iter_gives, nodes_number e.bytes.now c.args.nodes.place e.used);
    }

pub loop-node-preserved-then-is_some : goal.loop-node-preserved-then-is_some
loop-node-preserved-then-is_some c =
    let at = (goal.at.loop-node-preserved-then-is_some c).After-find in
    record {
      counted = λ children. omega (arith, on at _ (sym (c.if-is_some.ensures {u = tt})) children, c.loop-node.invariant.counted children);
      few = omega (arith, ap (λ ns. length {A = Node} ns) c.in-Some.ensures.steps, c.loop-node.invariant.few);
    }

pub loop-node-preserved : goal.loop-node-preserved
loop-node-preserved c =
    let at = (goal.at.loop-node-preserved c).After-find in
    record {
      counted = λ children. omega (arith, on at _ (sym (c.if-is_some.ensures {u = tt})) children, c.loop-node.invariant.counted children);
      few = omega (arith, ap (λ ns. length {A = Node} ns) c.in-Some.ensures.steps, c.loop-node.invariant.few);
    }

pub returns-clause-by_index : goal.returns-clause-by_index
returns-clause-by_index c children =
    let nodes = c.args.records.now.bytes.now in
    omega (arith, ap (with_prior nodes children c.args.layer) c.in-None.ensures.steps.0, priors_end nodes children c.args.layer, c.loop-node.invariant.counted children)
