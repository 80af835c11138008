-- What an argument is, and the list of all arguments.
pub mod Argument
pub mod List
pub mod Inside
