-- The laws of stepping a book's rules.
pub mod HeldState
pub mod Turns
pub mod Lines
pub mod Steps
pub mod Runs
pub mod Start
