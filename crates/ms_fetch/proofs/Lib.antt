pub mod Asking
pub mod Noting
pub mod Asks
pub mod Ending
