-- Laws of a book.
pub mod Dues
pub mod States
pub mod Checks
