-- A monitor struct, and what its calls answer and leave.
pub mod InPlace
