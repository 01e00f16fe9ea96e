-- Theorems about the reports of a listing: proofs/Reports.antt, by the laws of the files beside it.
pub mod Members
pub mod Calling
pub mod Firsts
pub mod Orders
pub mod Reports
pub mod AsBefore
pub mod Tiling
