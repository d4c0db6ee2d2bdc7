-- `KnotLaws` has the laws of rising knots and of how many are not above a length.
pub mod KnotLaws
-- Training: what is tested before; what a refusal that is handed on is; slices that are filled from their start; which paths are sampled; how it goes on path by path; what the book holds meanwhile, and what the next path makes of it;
-- how many divergences are counted; what is left in the end.
pub mod InputLaws
pub mod AnswerLaws
pub mod FillLaws
pub mod SampleLaws
pub mod CourseLaws
pub mod HoldLaws
pub mod NextLaws
pub mod CountLaws
pub mod WorkLaws
-- the claim about training:
pub mod Claimed
-- what a sequence's records are of:
pub mod KnotRecords
-- no training reads index 0 of a table:
pub mod IndexZero
