-- The numbers of the table 'Where each call is turned back'. Assumes nothing.
use Rattle.std.specs.Prelude.{ℕ, Option, None, Some, Result, Ok, Err}
use Rattle.priors.specs.declared.addresses.Address.{Address}
use Rattle.priors.specs.declared.refusals.Refusal.{Refusal}
use Rattle.priors.specs.declared.refusals.Refusal.TheVariants.{Plain, AtNode}
use Rattle.priors.specs.declared.refusals.Reason.{Reason}
use Rattle.priors.specs.declared.refusals.Reason.TheVariants.{TableLengths, TableEntry, PriorSizes, NodeOrder, Links, ChainOrder, ZeroPrior, Window, Form, PathLength, PathsFull, BookFull, OutputShort, TrainingInput, BaselineInput, OneKnot, SharedPoint}
use Rattle.priors.specs.declared.refusals.NodeReason.{NodeReason}
use Rattle.priors.specs.declared.refusals.NodeReason.TheVariants.{MissingChild, PastTable}

abbrev pub reason_number : Reason → ℕ
reason_number TableLengths = 1
reason_number TableEntry = 2
reason_number PriorSizes = 3
reason_number NodeOrder = 4
reason_number Links = 5
reason_number ChainOrder = 6
reason_number ZeroPrior = 7
reason_number Window = 8
reason_number Form = 9
reason_number PathLength = 10
reason_number PathsFull = 11
reason_number BookFull = 12
reason_number OutputShort = 13
reason_number TrainingInput = 16
reason_number BaselineInput = 17
reason_number OneKnot = 18
reason_number SharedPoint = 22

abbrev pub node_reason_number : NodeReason → ℕ
node_reason_number MissingChild = 14
node_reason_number PastTable = 15

abbrev pub number_of : Refusal → ℕ
number_of (Plain reason) = reason_number reason
number_of (AtNode reason node) = node_reason_number reason

-- the node that 14 and 15 name
abbrev pub named_node : Refusal → Option Address
named_node (Plain reason) = None
named_node (AtNode reason node) = Some node

-- a check's number: 0 where nothing is refused
abbrev pub checked_number : {X : Type 0} → Result X Reason → ℕ
checked_number (Ok x) = 0
checked_number (Err reason) = reason_number reason
