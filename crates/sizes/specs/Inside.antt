-- What the steps of each size leave, held to the list.
pub mod Lists
