-- What a program is, which rule beats which, and the limits.
pub mod Program
pub mod Beats
pub mod Limits
pub mod Inside
