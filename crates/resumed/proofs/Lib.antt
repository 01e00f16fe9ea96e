-- A monitor that goes on from a given state.
pub mod Windows
pub mod Steps
pub mod Culprits
pub mod Since
