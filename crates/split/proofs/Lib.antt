-- Laws of the definitions, for this crate's proofs and for those above.
pub mod Stores
pub mod Cells
pub mod Decomposes
pub mod Splits
