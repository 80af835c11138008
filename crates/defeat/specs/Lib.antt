-- Attack and defeat, as published and as computed: of any frame, then of a program.
pub mod Frame
pub mod Defeat
pub mod Tests
pub mod OfProgram
pub mod Inside
