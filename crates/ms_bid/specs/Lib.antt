pub mod Shown
pub mod Ends
pub mod Bids
pub mod Steps
pub mod Truths
