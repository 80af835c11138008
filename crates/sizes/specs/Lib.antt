-- The list of a program whose rows are planned.
pub mod Inside
