-- How many nodes a line can have, the lines of forests and of node tables, and what is claimed.
pub mod Masks
pub mod Lines
pub mod Claims
