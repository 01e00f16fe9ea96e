pub mod Answered
pub mod Cut
