-- What one read gives.
pub mod Turn
