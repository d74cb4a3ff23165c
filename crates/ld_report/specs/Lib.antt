pub mod Pieces
pub mod Entries
pub mod Parts
pub mod Counting
pub mod Steps
pub mod Extending
pub mod Findings
