-- The rules of a book stepped line by line, and what is written of it.
pub mod Holding
pub mod Stepped
