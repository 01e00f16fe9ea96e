-- A monitor's state in bits.
pub mod Kept
