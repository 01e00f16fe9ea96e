-- What saving and restoring keep.
pub mod Keeps
pub mod Alike
pub mod Twins
pub mod Entries
pub mod Slots
pub mod Trees
pub mod Answers
pub mod Promise
