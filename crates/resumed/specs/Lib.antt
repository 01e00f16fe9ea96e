-- A monitor that goes on from a given state.
pub mod Since
