-- The theorem of the table.
pub mod Trips
