-- What reading a book leaves in the lent tables, what it answers, and its steps.
pub mod BookTables
pub mod FillingPass
pub mod Answer
pub mod Steps
pub mod Lists
