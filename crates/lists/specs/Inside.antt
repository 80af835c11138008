-- What the contracts of private steps are stated in.
pub mod Stores
pub mod Numbering
