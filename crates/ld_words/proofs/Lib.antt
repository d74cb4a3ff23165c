pub mod Rows
pub mod Steps
pub mod Whole
pub mod Taken
pub mod Short
mod Examples
