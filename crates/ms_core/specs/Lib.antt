pub mod Placing
pub mod Valid
pub mod Living
pub mod Growth
pub mod Views
pub mod Closing
pub mod FirstBids
pub mod Asking
