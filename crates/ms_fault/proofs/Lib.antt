pub mod Inside
pub mod Lateness
pub mod Passing
pub mod Reading
