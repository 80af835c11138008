-- The laws of small clashes, and the proof of what is claimed.
pub mod Among
pub mod Strict
pub mod Prunings
pub mod Refusals
pub mod Claims
mod Selected
mod Turns
mod Answers
mod Evaluated
