-- What is derived: the definition by chains, the closure that computes it, and how the code gathers it.
pub mod Derivation
pub mod Closure
pub mod Gathering
pub mod Inside
