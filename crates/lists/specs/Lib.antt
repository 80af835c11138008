-- What every crate's definitions are made of.
pub mod Decides
pub mod Lists
pub mod Sorting
pub mod Inside
