-- A node's entry, and its step.
pub mod Memory
pub mod Check
pub mod Joined
pub mod Lists
