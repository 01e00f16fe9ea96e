-- Laws of the definitions, for this crate's proofs and for those above.
pub mod Rules
pub mod Books
