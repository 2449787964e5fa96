pub mod Shelves
pub mod Bidding
