-- The laws of derivation, by notion, for the crates above.
pub mod Rounds
pub mod Closures
pub mod Chains
pub mod Contradictions
pub mod Choices
pub mod Tables
pub mod Gatherings
pub mod Evaluated
mod Turns
