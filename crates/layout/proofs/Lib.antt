-- Laws of the bytes of an image, by notion.
pub mod Cursors
pub mod Parts
pub mod Directory
