pub mod Lines
pub mod Counts
pub mod Extending
pub mod Growing
