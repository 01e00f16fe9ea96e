-- Laws of the exported calls: a call with its answer told.
pub mod Exported
