-- What the proofs hold programs to: nothing here has to be believed.
pub mod Wellformed
