-- Laws of bits in bytes.
pub mod Values
pub mod Loops
pub mod Numbers
pub mod Packing
