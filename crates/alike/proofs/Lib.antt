-- Laws of the definitions, for this crate's proofs and for those above.
pub mod Spellings
pub mod Nodes
pub mod Matches
pub mod Wholes
