-- What private steps are asked and what they leave, and the tables they work on: held to the definitions of the crates below.
pub mod Exclusions
pub mod Strict
pub mod Rows
pub mod Joint
