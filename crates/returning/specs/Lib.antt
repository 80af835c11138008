-- What an image that was filed and brought back is.
pub mod Returning
