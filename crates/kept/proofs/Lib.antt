-- Laws of what nodes keep.
pub mod Keeping
pub mod Slots
