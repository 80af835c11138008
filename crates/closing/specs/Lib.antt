-- How the table of rows is made.
pub mod Inside
