-- The lines of the rules of a book, as text.
pub mod Head
