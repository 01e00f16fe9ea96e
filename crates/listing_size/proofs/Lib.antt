-- Theorems about the listing of a book.
pub mod BookRules
pub mod Handing
pub mod TextSizes
pub mod RuleSizes
pub mod ReportOnce
pub mod ListingFits
pub mod WholeCase
