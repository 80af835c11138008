-- The laws of lists and tests.
pub mod Lists
pub mod Orders
pub mod Scans
pub mod Decides
pub mod Places
pub mod Permutations
pub mod Sorting
pub mod Numberings
pub mod Stores
