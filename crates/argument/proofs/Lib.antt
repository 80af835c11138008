-- The laws of arguments, by notion, for the crates above.
pub mod MaskClosures
pub mod Minimal
pub mod Lists
pub mod SetTables
pub mod SubArguments
