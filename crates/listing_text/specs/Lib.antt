-- The listing of a book, as text.
pub mod Listing
