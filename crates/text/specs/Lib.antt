-- What writing text into lent memory leaves.
pub mod Tape
pub mod Lent
