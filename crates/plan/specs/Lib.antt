-- How many bits a rule's monitor takes, and where they stand.
pub mod Width
pub mod Layout
pub mod Rows
pub mod Book
pub mod Lists
