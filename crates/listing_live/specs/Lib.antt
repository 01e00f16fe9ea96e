-- The `live` and `owe` lines of a listing, as bytes, and what writing them asks and leaves.
pub mod Live
pub mod Entry
