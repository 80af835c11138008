-- What two calls on one image never say.
pub mod Exclusion
