-- The rules of a book: what compiling, layout and likeness say of each, and how lent tables hold them.
pub mod Rules
pub mod Tabled
pub mod Made
pub mod Answers
pub mod Lists
