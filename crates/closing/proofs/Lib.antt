-- The laws of the table of rows as it is made.
pub mod Masks
mod Pairings
mod Scatterings
mod Clashings
mod Headers
mod Tellings
