pub mod Examples
pub mod Field
pub mod Front
pub mod Number
pub mod Placing
pub mod Scan
pub mod Short
pub mod Text
