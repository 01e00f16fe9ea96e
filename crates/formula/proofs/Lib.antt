-- Laws of the definitions, for this crate's proofs and for those above.
pub mod Cases
pub mod Faults
pub mod Trees
pub mod Nodes
pub mod Walks
pub mod Rules
pub mod Local
pub mod Places
pub mod Signals
