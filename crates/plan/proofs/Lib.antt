-- Laws of the definitions, for this crate's proofs and for those above.
pub mod Widths
pub mod Pieces
pub mod Books
pub mod Rows
pub mod Facts
