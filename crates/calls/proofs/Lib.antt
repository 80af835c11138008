-- The laws of the calls' refusals, of the list call, and of calls that fill byte tables.
pub mod Refusals
mod Listings
pub mod Verdicts
pub mod Filling
pub mod Fittings
