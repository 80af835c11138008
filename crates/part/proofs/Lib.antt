-- The bytes of a part, and the causes 4 to 9 that they come to.
pub mod Bytes
pub mod Verdicts
