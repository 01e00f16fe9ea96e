-- Laws of what a call tells.
pub mod Told
