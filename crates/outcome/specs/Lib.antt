-- What a forest comes to.
pub mod Outcome
