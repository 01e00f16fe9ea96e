-- The laws of writing signals and operands.
pub mod Scans
