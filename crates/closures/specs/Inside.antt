-- The table that the steps above ask, held to what is derived.
pub mod Table
