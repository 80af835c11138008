-- What the pass over an image has found so far.
pub mod Inside
