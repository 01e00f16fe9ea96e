-- Laws of the steps and of their memory.
pub mod Memories
pub mod Subtrees
pub mod Walking
pub mod Fitting
pub mod Calling
pub mod Staying
pub mod Filling
pub mod Starting
