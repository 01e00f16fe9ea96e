-- Laws of the definitions, for this crate's proofs and for those above.
pub mod Words
pub mod Judges
pub mod Facts
