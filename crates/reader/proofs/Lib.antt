-- Laws of reading a book into tables.
pub mod Fills
pub mod Sounds
pub mod Columns
pub mod Runs
pub mod Answers
pub mod Lent
pub mod BookSteps
pub mod Reaching
pub mod Loops
pub mod OpeningPass
pub mod StepsOfBook
