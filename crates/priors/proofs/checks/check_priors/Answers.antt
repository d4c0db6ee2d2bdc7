-- `check_priors` meets its contract: a number of the records comes first, and where there is none 22 decides.
use mathlib.Core.Path.{◌≡◌, sym, ◌∙◌}
use Rattle.std.proofs.Common.{rules}
use Rattle.priors.specs.Refusals.{reason_number, checked_number}
use Rattle.priors.proofs.RuleLaws.{reason_some}
use Rattle.priors.proofs.PriorLaws.{records_first}
use Rattle.priors.proofs.checks.check_priors.Goals as goal

pub returns-in_err-check_records : goal.returns-in_err-check_records
returns-in_err-check_records c =
    let reason = c.in_err-check_records.field-0.0 in
    let n = reason_some reason in
    let told : checked_number c.from_residual.result ≡ reason_number reason = search rules in
    told ∙ n.1 ∙ sym (records_first c.args.nodes.now c.args.children.now c.args.layer n.0 (sym c.in_err-check_records.ensures ∙ n.1))
