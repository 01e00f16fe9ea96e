-- What a compiled rule is: ranges, nodes, the compiler's answers, and how a table holds the nodes.
pub mod Range
pub mod Mon
pub mod Compile
pub mod Table
pub mod Tables
pub mod Tape
