-- Read in this order: `Limits` names the numbers of document 01; `Sums` is a knot's sum record and where its ten values lie; `Figures` has the means, the variances
-- and the straight line; `Stats` says what `stats` answers; `Training` says what `train` answers and leaves, and `Courses` the same path by path; `Claims` states the
-- claim about training; `CheckRows` is the table of check rows, computed over these definitions.
pub mod Limits
pub mod Sums
pub mod Figures
pub mod Stats
pub mod Training
pub mod Courses
pub mod Claims
pub mod CheckRows
