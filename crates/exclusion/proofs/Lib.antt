-- What the walks cite.
pub mod Exclusion
