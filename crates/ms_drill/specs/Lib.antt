pub mod Lines
pub mod Drills
pub mod Spelling
