-- What is known of a book that is read.
pub mod Reading
