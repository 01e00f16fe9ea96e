-- What makes two compiled rules alike, and what the walks that find it answer.
pub mod Text
pub mod Alike
pub mod Signs
pub mod Rows
