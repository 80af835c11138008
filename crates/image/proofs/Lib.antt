-- Laws of the image reader, by notion.
pub mod EachRule
pub mod EachPair
pub mod Whole
pub mod Readings
pub mod Accepted
pub mod Repeated
pub mod Walk
pub mod Beaten
pub mod Limited
