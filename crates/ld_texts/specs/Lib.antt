pub mod Known
pub mod Editing
pub mod Learning
pub mod Laws
pub mod EditLaws
pub mod Inside
pub mod Reach
