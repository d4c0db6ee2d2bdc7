-- What a listed node that has a prior is tested for before its divergence is worked out: a missing child, a total past the table's end. Assumes nothing.
use Rattle.std.specs.Prelude.{ℕ, ◌+◌, cond, nat_le, Result, Ok, Err}
use Rattle.priors.specs.Priors.{Counts, total}
use Rattle.priors.specs.declared.refusals.NodeReason.{NodeReason}
use Rattle.priors.specs.declared.refusals.NodeReason.TheVariants.{MissingChild, PastTable}
use Rattle.divergence.specs.declared.divergences.Fit.{Fit}
use Rattle.divergence.specs.Divergence.{lacks_child}

-- the tables' length, a node's prior and its evidence: a node that fits has its prior total and its total
unfoldable pub fit_of : ℕ → Counts → Counts → Result Fit NodeReason
fit_of size p e =
    cond (lacks_child p.children e.children) (Err MissingChild)
    (cond (nat_le size (total p + total e)) (Err PastTable)
    (Ok (record { prior = total p; posterior = total p + total e })))
