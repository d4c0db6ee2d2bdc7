-- `Fields` has the laws of fields, `Tests` those of comparisons, `Ranks` those of addresses. Then one change of rows (`Orders`, `RowLaws`), when two
-- lists of rows are equal (`Ext`), rows by their places (`ByPlace`), and where a search finds what a look-up by exact key finds (`Exactly`). `BelowLaws` has the laws of scans, `ChainLaws` and `RecordLaws` those of prior records, `OrderedWalks` what a test of each item and the next tells, `LayerLaws` those of the look-up with a floor, `SlotLaws` those of 22's test, `PriorLaws`
-- what accepted priors tell, `ReadLaws` how many records the look-up of a child reads, `Floors` what the floor promises, `TableLaws` what the bounds of tables are, `RuleLaws` which numbers rules give and what a refusal's number says of it.
pub mod Fields
pub mod Tests
pub mod Ranks
pub mod Orders
pub mod RowLaws
pub mod Ext
pub mod ByPlace
pub mod Exactly
pub mod BelowLaws
pub mod ChainLaws
pub mod RecordLaws
pub mod OrderedWalks
pub mod LayerLaws
pub mod SlotLaws
pub mod PriorLaws
pub mod ReadLaws
pub mod Floors
pub mod TableLaws
pub mod RuleLaws
