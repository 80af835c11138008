-- The theorems on forests, warrant and answers of a program.
pub mod Forests
pub mod Warrant
pub mod Answers
pub mod Places
pub mod Fittings
