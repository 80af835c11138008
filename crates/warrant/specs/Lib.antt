-- The three demands, and what an answer has to be.
pub mod Claims
pub mod Answers
pub mod Inside
