-- What private steps leave: held to the definitions beside this folder.
pub mod Selected
