-- A run of many words in one call.
pub mod Run
