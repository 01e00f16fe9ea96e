-- Laws of a formula table's columns.
pub mod Filling
pub mod Own
