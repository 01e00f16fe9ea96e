-- Laws of the numbers of a book.
pub mod Numbers
