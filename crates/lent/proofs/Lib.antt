-- Laws of the tests of what is lent.
pub mod Shaping
pub mod Standings
pub mod Refusals
