-- What is known of one read.
pub mod OneRead
