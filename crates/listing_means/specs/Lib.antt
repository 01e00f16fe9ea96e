-- What the reports of a listing say, read from the rules and the step lines alone; and the same for step lines of any numbers, one call a line.
pub mod Reports
pub mod Called
pub mod AsBefore
pub mod Tiled
