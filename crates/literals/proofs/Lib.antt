-- The laws of sets as numbers, by notion, for the crates above.
pub mod Tests
pub mod Bits
pub mod Members
pub mod Lists
pub mod Within
pub mod Clashes
pub mod Words
mod Pairs
pub mod Ascending
