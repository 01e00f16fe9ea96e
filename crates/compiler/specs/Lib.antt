-- What compiling a rule answers and leaves behind.
pub mod Compiled
