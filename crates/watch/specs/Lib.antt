-- What watching a rule of a book gives.
pub mod Watch
pub mod Reports
