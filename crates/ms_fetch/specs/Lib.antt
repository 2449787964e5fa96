pub mod Lacks
pub mod Fetching
