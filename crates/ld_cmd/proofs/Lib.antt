mod Bricks
mod Ended
mod Queries
mod SameSaid
pub mod Bounds
pub mod Endings
pub mod First
pub mod HaveBytes
pub mod Leaves
pub mod Opening
pub mod Risen
pub mod Sizes
pub mod Steps
