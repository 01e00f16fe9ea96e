-- The step call on a monitor struct as a machine.
pub mod Calls
