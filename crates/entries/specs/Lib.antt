-- Read in this order: `Limits` names the numbers of document 01 for a tracker; `Keys` and `Entries` say what an entry's bytes hold, how a key is found, and what a
-- change of bytes leaves. `Ascending` lets the ascent stand beside a book's entries.
pub mod Limits
pub mod Keys
pub mod Entries
pub mod Ascending
