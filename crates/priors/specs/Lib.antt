-- `Limits` names the numbers of document 01. `Word` and `Address` say how numbers and addresses lie in bytes and how addresses are ordered, `Refusals` has every
-- refusal's number, `Tables` and `Priors` what the lent tables and records hold and which number they get, `Reading` what a call that asks answers, `Children` what
-- the look-up of a child tells, `Floors` what the floor promises. `Chains` says what a walk along a chain has still to come, `Lookups` what the code's look-ups stand for, `Layer` what a search shows on the way. `Rows`
-- and `Search` are about lists of (key, count), `Below` about indices, `Rules` about the first of several rules that is broken.
pub mod Limits
pub mod Word
pub mod Address
pub mod Refusals
pub mod Below
pub mod Rules
pub mod Tables
pub mod Rows
pub mod Search
pub mod Priors
pub mod Chains
pub mod Layer
pub mod Lookups
pub mod Floors
pub mod Reading
pub mod Children
