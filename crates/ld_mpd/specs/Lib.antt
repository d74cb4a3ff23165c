pub mod Blocks
pub mod Joining
pub mod Laws
pub mod Seen
