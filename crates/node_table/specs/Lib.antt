-- The definitions of a formula table of node structs.
pub mod Columns
pub mod Node
