-- Read in this order: keys and entries in bytes, the search by halving, entries moved and changed.
pub mod KeyLaws
pub mod EntryLaws
pub mod HalvingLaws
pub mod GapLaws
pub mod ChangeLaws
pub mod BookLaws
