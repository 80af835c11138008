-- The argument list, read off the table of rows.
pub mod Inside
