-- The laws behind the exclusion table.
pub mod RowWords
pub mod Eaches
pub mod Crossings
pub mod Takings
pub mod Fillings
pub mod Concluded
