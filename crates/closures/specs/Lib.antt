-- The table of rows, and what it says of a program.
pub mod Inside
