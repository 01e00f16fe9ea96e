-- Laws of the letters.
pub mod Places
