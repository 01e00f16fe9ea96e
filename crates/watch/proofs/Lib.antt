-- Laws of a watch.
pub mod Watching
pub mod Saying
