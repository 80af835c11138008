-- The laws of the argument list as the rows give it.
mod Folds
mod Told
mod Counts
mod Marks
mod Puts
mod Turns
mod Lists
