-- What the node's record and the walk along its chain give is the look-up in its prior.
use mathlib.Core.Path.{◌≡◌, sym, ◌∙◌}
use Rattle.std.specs.Prelude.{None, Some}
use Rattle.priors.specs.Address.{rank_of}
use Rattle.priors.specs.Rows.{count_of}
use Rattle.priors.specs.Reading.{answered}
use Rattle.priors.specs.Children.{reads_of}
use Rattle.priors.specs.Priors.{lent_priors, records, find_record, children_of, layer_of}
use Rattle.priors.proofs.ReadLaws.{told_in, told_without}
use Rattle.priors.proofs.lookups.LentPriors.child.Goals as goal

pub returns-in-Some : goal.returns-in-Some
returns-in-Some c =
    let p = c.args.self.now in
    let node = c.in-Some.prior.node in
    let rank = rank_of c.args.node.scale c.args.node.point in
    let wanted = rank_of c.args.child.scale c.args.child.point in
    let lent = c.in_ok-priors.ensures.lent in
    let found : find_record (layer_of p.floor) rank (records p.nodes.now) ≡ Some node =
    (λ i. find_record (sym lent.2 i) (sym c.rank.ensures i) (records (sym lent.0 i))) ∙ sym c.in-Some.ensures.found in
    let children : c.in-Some.prior.children.now ≡ p.children.now = c.in-Some.ensures.lent ∙ lent.1 in
    let count : c.child.result.count ≡ count_of wanted (children_of p.children.now node.link) = c.child.ensures.count_value ∙ (λ i. count_of (c.rank-in-Some.ensures i) (children_of (children i) node.link)) in
    let read : c.child.result.read ≡ reads_of wanted (children_of p.children.now node.link) = c.child.ensures.read_value ∙ (λ i. reads_of (c.rank-in-Some.ensures i) (children_of (children i) node.link)) in
    (λ i. answered (record { count = count i; read = read i }))
    ∙ sym (told_in (lent_priors p.nodes.now p.children.now p.floor) rank wanted (sym c.in_ok-priors.ensures.number) node found)

pub returns-in-None : goal.returns-in-None
returns-in-None c =
    let p = c.args.self.now in
    let rank = rank_of c.args.node.scale c.args.node.point in
    let wanted = rank_of c.args.child.scale c.args.child.point in
    let lent = c.in_ok-priors.ensures.lent in
    let missing : find_record (layer_of p.floor) rank (records p.nodes.now) ≡ None =
    (λ i. find_record (sym lent.2 i) (sym c.rank.ensures i) (records (sym lent.0 i))) ∙ sym c.in-None.ensures.found in
    sym (told_without (lent_priors p.nodes.now p.children.now p.floor) rank wanted (sym c.in_ok-priors.ensures.number) missing)
