-- What reading a rule hands back. The definitions are those of crate `layout`.
pub mod Inside
