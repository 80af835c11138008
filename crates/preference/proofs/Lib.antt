-- The two forms of preference are one, and what the code's loop does.
pub mod Reached
pub mod Preferences
