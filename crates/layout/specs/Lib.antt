-- The program image as document 01 describes it: what stands where, the causes that refuse one, and the program it holds.
pub mod Layout
pub mod Causes
pub mod Reading
pub mod Inside
