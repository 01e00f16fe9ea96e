-- What the numbers of a book are.
pub mod Number
pub mod Digits
