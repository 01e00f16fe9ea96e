-- What a formula is, how a table spells one, and what a signal is worth.
pub mod Tree
pub mod Spells
pub mod Walk
pub mod Formula
pub mod Table
pub mod Pure
pub mod Signal
pub mod Text
