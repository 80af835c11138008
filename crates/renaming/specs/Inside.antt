-- What the proofs hold tests to: nothing here has to be believed.
pub mod Tests
