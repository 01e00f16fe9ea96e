-- What is written for a report.
pub mod Written
