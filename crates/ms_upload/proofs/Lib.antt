mod Visiting
mod Counting
mod Following
mod Storing
mod Enough
mod Obeying
mod Ruling
