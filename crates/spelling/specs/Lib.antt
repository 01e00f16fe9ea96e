-- The texts of signals and operands, as bytes, and what writing them asks and leaves.
pub mod Spelling
pub mod Scan
