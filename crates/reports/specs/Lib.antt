-- The step call as a machine, and what its own table is.
pub mod Calls
