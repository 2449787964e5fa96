pub mod Labels
pub mod Objects
pub mod Reading
pub mod Stores
pub mod Trees
