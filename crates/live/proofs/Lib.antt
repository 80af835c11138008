-- The laws of live rules.
pub mod Takings
