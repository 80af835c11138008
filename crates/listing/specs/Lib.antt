-- The list as the code makes it, off the closure table.
pub mod Inside
