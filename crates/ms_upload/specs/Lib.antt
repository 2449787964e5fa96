pub mod Visits
pub mod Asking
pub mod Tallies
pub mod Jobs
pub mod Placings
