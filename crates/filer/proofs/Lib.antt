-- The laws of the writer's steps.
pub mod Comparisons
pub mod Insertions
pub mod Rotations
pub mod Arrangements
pub mod Rules
pub mod Renumberings
pub mod MovedPairs
pub mod Wholes
pub mod Files
