-- The writer's own steps. What it promises is in crate `filing`.
pub mod Inside
