-- The letters of words, one by one.
pub mod Letters
