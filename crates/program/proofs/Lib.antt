-- The laws of programs and of the rule table, by notion, for the crates above.
pub mod Numbers
pub mod Pairs
pub mod Stores
pub mod Fillings
pub mod Chaining
