-- The laws of writing `node` lines.
pub mod Cells
