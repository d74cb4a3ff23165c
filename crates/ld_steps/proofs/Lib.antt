mod Following
mod Marked
mod Ranges
