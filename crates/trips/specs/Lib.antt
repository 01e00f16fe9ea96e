-- The trips of document 01 as one table.
pub mod Table
