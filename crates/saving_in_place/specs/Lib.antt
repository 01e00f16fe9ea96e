-- What restoring makes of a monitor struct.
pub mod SavedInPlace
