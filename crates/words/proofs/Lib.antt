-- Laws of the words.
pub mod Codes
pub mod Lookups
pub mod Spelled
