-- The image of a program.
pub mod Image
pub mod Inside
