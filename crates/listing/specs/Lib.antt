-- Listing a book: what the call answers, and what its parts ask and leave.
pub mod Lists
pub mod Books
pub mod LentLists
pub mod Whole
