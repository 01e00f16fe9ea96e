-- Laws of the definitions, for this crate's proofs and for those above.
pub mod Truths
pub mod Windows
pub mod Steps
pub mod Culprits
pub mod Shapes
pub mod Calls
pub mod Logics
pub mod Plains
pub mod Machines
pub mod Meaning
pub mod Differences
