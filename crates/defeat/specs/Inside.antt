-- What private steps are asked and what they leave, and the tables they work on: held to the definitions beside this folder.
pub mod Exclusions
pub mod Kinds
pub mod Steps
