pub mod Inside
pub mod Laws
pub mod Parts
pub mod Steps
pub mod View
