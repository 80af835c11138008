-- What a small clash is, the call that marks one, and what is claimed of it.
pub mod Clash
pub mod Calls
pub mod Claims
pub mod Inside
