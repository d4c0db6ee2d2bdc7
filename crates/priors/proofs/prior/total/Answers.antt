-- What comes along the chain are its records' counts, and their sum is small.
use Rattle.std.proofs.Common.{◌≡◌, ap, arith, rules}
use Rattle.std.specs.List.{sum_by}
use Rattle.std.proofs.lemmas.Iterator.{YieldsList-from_map}
use Rattle.std.proofs.lemmas.Iterator.Consumers.{YieldsList-from_first, fits_by_from_yields_list, sum_by_from_yields_List}
use Rattle.priors.specs.Chains.{records_left}
use Rattle.priors.specs.Priors.{chain_of, total}
use Rattle.priors.specs.declared.records.Record.{Record}
use Rattle.priors.proofs.PriorLaws.{chain_little, summed}
use Rattle.priors.proofs.prior.total.Goals as goal

pub sum-along-requires-clause-fits : goal.sum-along-requires-clause-fits
sum-along-requires-clause-fits c =
    let records = chain_of c.args.children.now c.args.node.link in
    fits_by_from_yields_list (λ (r : Record). r.count) records _ 18446744073709551616
    (YieldsList-from_map _ (λ (r : Record). r.count) (YieldsList-from_first (λ x. x) records_left records (ap records_left c.map.ensures.source)) c.map.ensures.closure (λ x r q k. search rules))
    (omega (arith, chain_little c.args.children.now c.args.node.link c.type_inv.children c.requires.short))

along : (c : goal.After-from) → c.sum-along.result ≡ sum_by (λ (r : Record). r.count) (chain_of c.args.children.now c.args.node.link)
along c =
    let records = chain_of c.args.children.now c.args.node.link in
    sum_by_from_yields_List (λ (r : Record). r.count) records _ c.sum-along.result c.sum-along.ensures.ran
    (YieldsList-from_map _ (λ (r : Record). r.count) (YieldsList-from_first (λ x. x) records_left records (ap records_left c.map.ensures.source)) c.map.ensures.closure (λ x r q k. search rules))

pub overflow_add-result : goal.overflow_add-result
overflow_add-result c = omega (arith, along c, chain_little c.args.children.now c.args.node.link c.type_inv.children c.requires.short)

pub returns : goal.returns
unfolding total
returns c = omega (arith, c.from.ensures, along c, summed (chain_of c.args.children.now c.args.node.link))
