-- Laws of the lines of a book.
pub mod Texts
pub mod Parts
pub mod Lines
pub mod Sane
