-- Laws of the definitions, for this crate's proofs and for those above.
pub mod Ranges
pub mod Rows
pub mod Parts
pub mod Signals
pub mod TableWalk
pub mod HeldTree
