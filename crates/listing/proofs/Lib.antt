-- Laws of the listing.
pub mod Heads
pub mod Wholes
