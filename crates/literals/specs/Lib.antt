-- What the contracts of `literals` cite: sets as numbers.
pub mod Sets
pub mod Inside
