-- The filed form of a program, what programs hold, the call that writes it, and what is claimed.
pub mod Filed
pub mod Content
pub mod Calls
pub mod Claims
pub mod Inside
