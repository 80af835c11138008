-- The laws of the table of rows.
pub mod Readings
