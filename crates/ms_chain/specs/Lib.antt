pub mod Lines
pub mod LineInside
pub mod Heard
pub mod HeardInside
pub mod Splits
pub mod ChainInside
pub mod Readings
pub mod Refs
