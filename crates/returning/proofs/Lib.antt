-- What the walk cites.
pub mod Returning
