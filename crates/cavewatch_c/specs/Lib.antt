-- Each result as C is told it, and the calls with it.
pub mod Numbers
pub mod Said
pub mod Calls
