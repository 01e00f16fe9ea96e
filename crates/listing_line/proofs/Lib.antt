-- The laws of writing lines.
pub mod Fields
pub mod Nodes
pub mod Rules
pub mod Plans
pub mod Rows
