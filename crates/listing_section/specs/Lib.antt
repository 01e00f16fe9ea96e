-- The lines of one rule of a listing: what writing them asks and leaves.
pub mod Section
