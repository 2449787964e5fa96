pub mod Seating
pub mod Bidders
