-- `find` meets its contract: the ending is found by its key, and its children end where the next one stands.
use Rattle.std.proofs.Common.{◌+◌, sym, ap, ◌∙◌, arith}
use Rattle.entries.specs.Entries.{rows, find_in}
use Rattle.divergence.specs.Parts.{part, leading}
use Rattle.divergence.proofs.ListedLaws.{FoundEnding, ending_in_use, ending_found, ending_missing}
use Rattle.divergence.proofs.evidence.Listed.find.Goals.{After-at-evidence}
use Rattle.divergence.proofs.evidence.Listed.find.Goals as goal

found : (c : After-at-evidence) → FoundEnding c.args.entries.now.bytes.now c.args.entries.now.used c.args.rank c.in_ok-ending.ending c.at-evidence.result.entries.used
found c =
    let e = c.args.entries.now in
    let i = c.in_ok-ending.ending in
    ending_found e.bytes.now e.used c.requires c.args.rank c.find.result (c.find.ensures ∙ ap (find_in (rows e.bytes.now e.used)) c.ending.ensures) i (sym c.ok.ensures.value ∙ c.in_ok-ending.was {u = tt}) c.at-evidence.result.entries.used
    (c.at-evidence.ensures.end ∙ (λ j. i + 1 + leading (part (c.lent.ensures.bytes j) (i + 1) (c.lent.ensures.used j))))

pub returns-in_err-ending-clause-evidence : goal.returns-in_err-ending-clause-evidence
returns-in_err-ending-clause-evidence c =
    let e = c.args.entries.now in
    rw c.from_residual.ensures
    (sym (ending_missing e.bytes.now e.used c.requires c.args.rank c.find.result (c.find.ensures ∙ ap (find_in (rows e.bytes.now e.used)) c.ending.ensures) (sym c.ok.ensures.value ∙ c.in_err-ending.was {u = tt})))

pub at-evidence-requires : goal.at-evidence-requires
at-evidence-requires c =
    let e = c.args.entries.now in
    omega (arith, c.lent.ensures.used, ending_in_use e.bytes.now e.used c.requires c.args.rank c.find.result (c.find.ensures ∙ ap (find_in (rows e.bytes.now e.used)) c.ending.ensures) c.in_ok-ending.ending (sym c.ok.ensures.value ∙ c.in_ok-ending.was {u = tt}))

pub invariant_of-result : goal.invariant_of-result
invariant_of-result c = record { ascending = rw (c.at-evidence.ensures.bytes ∙ c.lent.ensures.bytes, c.at-evidence.ensures.ending) (found (goal.at.invariant_of-result c).After-at-evidence).ascend }

pub returns-clause-evidence : goal.returns-clause-evidence
returns-clause-evidence c = rw (c.at-evidence.ensures.bytes ∙ c.lent.ensures.bytes, c.at-evidence.ensures.ending) (sym (found (goal.at.returns-clause-evidence c).After-at-evidence).evidence_is)

pub returns-clause-address : goal.returns-clause-address
returns-clause-address c = rw (c.at-evidence.ensures.bytes ∙ c.lent.ensures.bytes, c.at-evidence.ensures.ending) (found (goal.at.returns-clause-address c).After-at-evidence).node_is

pub returns-clause-within : goal.returns-clause-within
returns-clause-within c = (c.at-evidence.ensures.bytes ∙ c.lent.ensures.bytes, (found (goal.at.returns-clause-within c).After-at-evidence).within)
