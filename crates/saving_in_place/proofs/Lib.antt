-- Laws of saving and restoring a monitor struct.
pub mod Answering
