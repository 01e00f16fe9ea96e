-- The `node` lines of a compiled rule, and what writing them asks and leaves.
pub mod Rows
