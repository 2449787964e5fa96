pub mod Going
pub mod Acts
pub mod Bidding
pub mod TrueBids
pub mod Leaving
pub mod Proposing
pub mod Catching
