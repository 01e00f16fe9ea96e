-- Demand 3 of the code's calls.
pub mod Following
pub mod Demand
