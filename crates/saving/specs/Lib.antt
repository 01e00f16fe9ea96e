-- Saving and restoring a monitor.
pub mod Save
pub mod Restore
