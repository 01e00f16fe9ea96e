-- What is lent to a call on a monitor.
pub mod Nodes
pub mod Shape
pub mod Lent
pub mod Lists
