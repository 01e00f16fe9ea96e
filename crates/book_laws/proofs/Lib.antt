-- Theorems about books.
pub mod Formulas
pub mod RuleLaws
pub mod RulesOfBook
pub mod Texts
pub mod Reading
pub mod Trips
pub mod RoundTrip
pub mod AsBefore
pub mod Openings
