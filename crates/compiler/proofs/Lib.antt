-- Laws of the compiler's walk.
pub mod Words
pub mod Compiling
pub mod Joining
pub mod Answering
