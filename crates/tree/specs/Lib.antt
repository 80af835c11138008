-- Argumentation lines, dialectical trees and marks: as published (Line, Marks, Published) and as computed (Reply, Forest,
-- Entries, OfLiteral).
pub mod Line
pub mod Marks
pub mod Reply
pub mod Forest
pub mod Entries
pub mod OfLiteral
pub mod Published
pub mod Inside
