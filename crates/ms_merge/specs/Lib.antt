pub mod Settling
pub mod Naming
pub mod Passing
