-- Demand 3 of the calls on a monitor struct.
pub mod Demand
