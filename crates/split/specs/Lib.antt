-- How lent memory holds a liveness split, and what the entry point answers.
pub mod Held
