-- What a book is, and what the check over its bytes answers.
pub mod Book
pub mod Answer
pub mod Due
pub mod Checked
