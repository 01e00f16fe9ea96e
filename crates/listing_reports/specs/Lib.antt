-- The reports of a book, and the lines behind those of its rules.
pub mod Reports
pub mod Tail
