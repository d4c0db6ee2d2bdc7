-- Read in this order. The recount's rows, and the step from H to H with one more path:
pub mod Passes
pub mod ManyRows
pub mod Occurrences
pub mod Window
pub mod Image
pub mod Step
-- what follows from the rows being the recount's:
pub mod Membership
pub mod Sums
pub mod Meaning
pub mod ListingForm
pub mod VisitLaws
pub mod Different
pub mod LeastLaws
-- what code needs besides, one pass over a path and the number of rows that would come in:
pub mod OnePass
pub mod Loops
pub mod Lengths
pub mod DryRun
-- paths, the queue and the book in bytes:
pub mod PathLaws
pub mod Tiles
pub mod QueueLaws
pub mod QueueImage
pub mod BookImage
-- what the functions of src are shown by:
pub mod FormLaws
pub mod EndingLaws
pub mod StepLaws
pub mod PassLaws
pub mod PlaceLaws
pub mod RoomLaws
pub mod CallLaws
-- what an add in a list of adds leans on and hands to the next:
pub mod CountingLaws
pub mod GoingLaws
pub mod BatchLaws
-- what a tidy keeps:
pub mod AheadLaws
pub mod TidyLaws
pub mod BaseLaws
pub mod KeepLaws
-- the claim over lists of calls:
pub mod Kept
pub mod RefusalLaws
pub mod FormImage
pub mod Simulation
pub mod Claimed
pub mod Corollaries
pub mod FormKept
pub mod MemoryLaws
-- the definitions on small numbers:
pub mod Examples
