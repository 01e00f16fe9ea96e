-- Reading a book into a table of node structs.
pub mod Filling
pub mod RuleList
pub mod Lists
