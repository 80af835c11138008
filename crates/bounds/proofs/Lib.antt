-- The laws behind the claim, then the claim.
pub mod Masks
pub mod Lines
pub mod Tables
pub mod Budgets
pub mod Claims
pub mod Fittings
