pub mod Lists
pub mod Prefixes
pub mod Rows
pub mod Supports
pub mod Known
pub mod Rest
pub mod Rule
pub mod Rising
