-- Read in this order, after those of `entries`: `Path` what a path lists and counts, `Figures` what is counted of paths with no keys named, `Form` what each call tests,
-- `Changes` what an add does to the rows of a book, `Calls` what an opening and an add answer and leave, `Batches` what a list of paths does, `Recount` what they are held
-- to, `Visits` what a node's visits are and what its counts come to, `Tidy` what a tidy keeps, answers and leaves, `Claims` openings, adds, lists of paths and tidies as calls
-- of a list, on the machine and on the recount, `Memory` how many entries a list of paths needs, `Corollaries` what the claim over lists (divergence) comes to for them
-- without the recount. Only inner contracts cite `Adding`, what an add leans on and hands to the next, `Room`, what 12's dry run looks at, and `Ahead`, how a tidy's pass
-- tells what stays.
pub mod Path
pub mod Figures
pub mod Form
pub mod Changes
pub mod Calls
pub mod Batches
pub mod Adding
pub mod Recount
pub mod Visits
pub mod Tidy
pub mod Room
pub mod Ahead
pub mod Claims
pub mod Memory
pub mod Corollaries
