-- What a book in memory of its own holds.
pub mod Opened
