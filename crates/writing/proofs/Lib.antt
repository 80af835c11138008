-- Laws of images, by notion.
pub mod Reading
pub mod Written
pub mod Fits
pub mod Accepting
pub mod Holding
pub mod Bytes
pub mod Outputs
