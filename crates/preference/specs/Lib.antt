-- Preference between arguments, as published and as computed.
pub mod Reached
pub mod Preference
