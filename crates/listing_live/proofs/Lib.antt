-- The laws of writing `live` and `owe` lines.
pub mod Entries
pub mod Owes
pub mod Lives
pub mod Splits
pub mod OweLines
