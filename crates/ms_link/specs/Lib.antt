pub mod Links
pub mod Composing
