-- A monitor in lent memory, and its step calls.
pub mod Walk
pub mod Call
pub mod Fitted
pub mod Fresh
