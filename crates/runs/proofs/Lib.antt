-- Laws of a run.
pub mod Running
pub mod Calls
pub mod Runs
