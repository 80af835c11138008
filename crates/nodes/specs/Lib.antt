-- Entries of the node table.
pub mod Nodes
pub mod Inside
