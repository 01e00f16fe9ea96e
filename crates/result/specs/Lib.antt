-- The result of a call, and why there is none.
pub mod Refusal
pub mod Result
