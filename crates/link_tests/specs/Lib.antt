pub mod Untold
pub mod Told
