-- The terms of the theorems about books.
pub mod Write
pub mod Before
