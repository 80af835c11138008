-- The laws of the steps from a program to an answer.
mod Occurrences
mod Decisions
mod Settlements
