-- The laws of writing reports.
pub mod Reports
pub mod Rows
