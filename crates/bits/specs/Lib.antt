-- Bits in bytes, and numbers as bits.
pub mod Bits
