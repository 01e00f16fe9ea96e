-- Theorems about compiled rules.
pub mod ReadsBack
