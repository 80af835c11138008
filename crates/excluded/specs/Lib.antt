-- The exclusion table of a program, and what the steps to it leave.
pub mod Inside
