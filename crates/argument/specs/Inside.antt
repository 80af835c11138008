-- What a mask derives, and tables of literal sets: held to the definitions beside this folder.
pub mod MaskClosure
pub mod Sets
