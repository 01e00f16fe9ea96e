-- The lines of a listing, as bytes, and what writing them asks and leaves.
pub mod Line
pub mod Node
pub mod Rule
pub mod Plan
