-- What private steps are asked and what they leave, held to what is derived.
pub mod Plan
pub mod Steps
