pub mod LineState
pub mod Passing
pub mod Laws
