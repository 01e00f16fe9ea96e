-- Laws of a check.s step and of entries.
pub mod Entries
pub mod Checks
