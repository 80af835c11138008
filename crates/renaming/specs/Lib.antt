-- When two programs are the same but for the rules' numbers.
pub mod Programs
pub mod Inside
