-- What a line of a book is and holds.
pub mod Text
pub mod Line
pub mod Means
