-- Warrant, forests and answers of a program, in the order of document 01; then what an answer leaves in the lent tables.
pub mod Warrant
pub mod Forest
pub mod Answer
pub mod Tables
pub mod Inside
