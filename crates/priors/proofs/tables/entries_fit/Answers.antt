use Rattle.std.proofs.Common.{◌∙◌, rules, tests}
use Rattle.std.proofs.lemmas.Iterator.Search.{all_from_yields_List}
use Rattle.std.proofs.lemmas.Iterator.{YieldsList-from_slice}
use Rattle.std.proofs.lemmas.Iterator.Adapters.{YieldsList-from_skip}
use Rattle.priors.specs.Tables.{within}
use Rattle.priors.proofs.TableLaws.{entries_listed}
use Rattle.priors.proofs.tables.entries_fit.Goals as goal

pub returns : goal.returns
returns c = all_from_yields_List within _ _ c.all.result c.all.ensures.ran (YieldsList-from_skip 1 (YieldsList-from_slice c.args.t.now (search rules)) (search rules)) (λ x b q k. search (rules, tests)) ∙ entries_listed c.args.t.now
