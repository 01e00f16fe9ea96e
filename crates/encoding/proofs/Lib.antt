-- Laws of the definitions, for this crate's proofs and for those above.
pub mod Below
pub mod Sums
pub mod Places
pub mod Spans
pub mod Rows
