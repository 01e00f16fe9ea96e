-- Laws of reading into columns.
pub mod Kept
pub mod Reading
