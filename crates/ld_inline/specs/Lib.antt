pub mod Flat
pub mod Inside
pub mod Laws
pub mod Meaning
pub mod Rows
pub mod Text
