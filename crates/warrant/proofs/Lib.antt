-- The theorems on the calls.
pub mod Calls
pub mod Refusals
pub mod Answers
pub mod Claims
pub mod Queries
pub mod Rows
