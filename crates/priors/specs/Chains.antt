-- The walk along a chain. Assumes nothing.
use Rattle.std.specs.Prelude.{List}
use Rattle.priors.specs.Priors.{chain_of}
use Rattle.priors.specs.declared.records.Record.{Record}
use Rattle.priors.specs.declared.chains.Chain.{Chain}

-- the records that a walk has still to come
abbrev pub records_left : Chain → List Record
records_left c = chain_of c.children.now c.link
