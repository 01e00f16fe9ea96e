-- Laws of a monitor struct's calls.
pub mod Answering
