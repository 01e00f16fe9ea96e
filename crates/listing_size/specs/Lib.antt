-- The terms of the theorems about listings: the room that each fits in, what reading hands to it, how often a rule is reported, worked ones.
pub mod Room
pub mod Handed
pub mod Times
pub mod Worked
