-- The calls, in the order of document 01; the causes that turn them away; and what is claimed of those that fill byte tables.
pub mod Verdicts
pub mod Outcomes
pub mod Calls
pub mod Causes
pub mod Filling
