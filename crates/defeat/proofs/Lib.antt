-- What is asked of a frame and of its tests, and the theorems on defeat.
pub mod Laws
pub mod Renders
pub mod Defeat
pub mod Kind
pub mod OfProgram
pub mod Weighing
pub mod Attacks
mod Searching
