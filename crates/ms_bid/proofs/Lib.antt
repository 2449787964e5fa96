pub mod Beginning
pub mod Counting
pub mod Noting
pub mod Deciding
pub mod Running
pub mod Flagging
