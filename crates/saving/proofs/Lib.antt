-- Laws of saving and restoring.
pub mod Rows
pub mod Going
pub mod Saves
pub mod Restores
