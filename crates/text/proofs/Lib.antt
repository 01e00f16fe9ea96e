-- The laws of writing text.
pub mod Tapes
