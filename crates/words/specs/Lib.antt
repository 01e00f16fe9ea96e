-- The words that a line can begin with.
pub mod Same
pub mod Word
pub mod Spelled
pub mod Coded
