-- Lists of numbers that pass a test, and how the list of the arguments is left.
pub mod Picks
pub mod Listings
