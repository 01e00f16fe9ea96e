-- What the layout calls answer.
pub mod Entry
pub mod Lists
