-- A rule's own places stand for the whole table.
pub mod Own
