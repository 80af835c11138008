-- The steps from a program to an answer: what they are asked and what they leave.
pub mod Inside
