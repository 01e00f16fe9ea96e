-- The tables of a call over node structs.
pub mod Over
