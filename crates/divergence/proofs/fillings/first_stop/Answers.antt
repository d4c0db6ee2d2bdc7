-- `first_stop` meets its contract: the nodes still to come are stopped where all are.
use Rattle.std.proofs.Common.{◌≡◌, ℕ, List, length, sym, ap, ◌∙◌}
use Rattle.std.specs.Prelude.{Option, None, Some, Result, Ok, Err}
use lib.Ieee.{Float}
use Rattle.priors.specs.Priors.{prior_of_node}
use Rattle.priors.specs.declared.refusals.NodeReason.{NodeReason}
use Rattle.divergence.specs.declared.divergences.Fit.{Fit}
use Rattle.divergence.specs.Listing.{listed_node, nodes_left}
use Rattle.divergence.specs.Divergence.{divergence}
use Rattle.divergence.specs.Statistics.{walk, visited}
use Rattle.divergence.specs.Fits.{fit_of}
use Rattle.divergence.specs.Fillings.{stop_of}
use Rattle.divergence.proofs.FitLaws.{told_none, told_by, fit_divergence}
use Rattle.divergence.proofs.WalkLaws.{divergence_of, walk_next, walk_end}
use Rattle.divergence.proofs.FillLaws.{stop_placed, stop_skipped, stop_refused}
use Rattle.divergence.proofs.fillings.first_stop.Goals.{After-prior, After-fit}
use Rattle.divergence.proofs.fillings.first_stop.Goals as goal

-- where all nodes are stopped, by what the node at hand gives
on : (c : After-prior) (G D : List Float) → length G ≡ c.args.size → (x : Result (Option Float) NodeReason) → divergence_of G D c.args.priors.now.nodes.now c.args.priors.now.children.now c.args.priors.now.layer (listed_node c.in-Some.node) ≡ x
    → stop_of (visited (listed_node c.in-Some.node).address x (walk G D c.args.priors.now.nodes.now c.args.priors.now.children.now c.args.priors.now.layer (nodes_left c.next.new.self)))
    ≡ stop_of (walk G D c.args.priors.now.nodes.now c.args.priors.now.children.now c.args.priors.now.layer (nodes_left c.args.nodes))
on c G D size x is =
    let p = c.args.priors.now in
    sym (ap stop_of (walk_next G D p.nodes.now p.children.now p.layer (listed_node c.in-Some.node) (nodes_left c.next.new.self) (nodes_left c.loop-node.node-iterator) x c.in-Some.ensures.steps is)) ∙ c.loop-node.invariant G D size

-- the divergence of the node at hand, by its tests
tested : (c : After-fit) (G D : List Float) → length G ≡ c.args.size → (r : Result Fit NodeReason) → c.fit.result ≡ r
    → divergence_of G D c.args.priors.now.nodes.now c.args.priors.now.children.now c.args.priors.now.layer (listed_node c.in-Some.node)
    ≡ fit_divergence G D (prior_of_node c.in-Some-prior.prior.children.now c.in-Some-prior.prior.node) (listed_node c.in-Some.node).evidence r
tested c G D size r is =
    let n = listed_node c.in-Some.node in
    let prior = c.in-Some-prior.prior in
    let counts = prior_of_node prior.children.now prior.node in
    told_by G D c.args.priors.now n c.rank.result c.rank.ensures prior c.in-Some-prior.ensures.found c.in-Some-prior.ensures.lent r (sym is ∙ c.fit.ensures ∙ ap (λ (k : ℕ). fit_of k counts n.evidence) (sym size))

pub returns-in-Err : goal.returns-in-Err
returns-in-Err c G D size =
    let at = goal.at.returns-in-Err c in
    ap Err c.refusal.ensures ∙ sym (stop_refused (listed_node c.in-Some.node).address c.in-Err.reason _) ∙ on at.After-prior G D size (Err c.in-Err.reason) (tested at.After-fit G D size (Err c.in-Err.reason) c.in-Err.is)

pub loop-node-preserved-in_default-fit : goal.loop-node-preserved-in_default-fit
loop-node-preserved-in_default-fit c G D size =
    let at = goal.at.loop-node-preserved-in_default-fit c in
    let n = listed_node c.in-Some.node in
    let x = divergence G D (prior_of_node c.in-Some-prior.prior.children.now c.in-Some-prior.prior.node) n.evidence in
    sym (stop_placed n.address x _) ∙ on at.After-prior G D size (Ok (Some x)) (tested at.After-fit G D size (Ok c.in_default-fit.field-0) c.in_default-fit.is)

pub loop-node-preserved : goal.loop-node-preserved
loop-node-preserved c G D size =
    let n = listed_node c.in-Some.node in
    sym (stop_skipped n.address _) ∙ on (goal.at.loop-node-preserved c).After-prior G D size (Ok None) (told_none G D c.args.priors.now n c.rank.result c.rank.ensures c.in_default.ensures.found)

pub returns : goal.returns
returns c G D size =
    let p = c.args.priors.now in
    sym (sym (c.loop-node.invariant G D size) ∙ ap (λ ns. stop_of (walk G D p.nodes.now p.children.now p.layer ns)) c.in-None.ensures.steps.0 ∙ ap stop_of (walk_end G D p.nodes.now p.children.now p.layer))
