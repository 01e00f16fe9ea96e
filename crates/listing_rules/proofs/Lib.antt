-- Laws of the definitions, for this crate's proofs and for those above.
pub mod Refusals
pub mod Entries
pub mod RuleLoop
pub mod Likes
pub mod Layouts
pub mod Tells
