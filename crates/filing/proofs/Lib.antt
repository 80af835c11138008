-- Laws of the filed form and of the way back, by notion.
pub mod Orders
pub mod Contents
pub mod Images
pub mod Back
pub mod Reordering
pub mod Filed
pub mod Typed
pub mod Refusals
pub mod Claims
mod Fittings
