-- What the private types of this crate mean; no other crate cites it.
pub mod Marking
pub mod Nodes
pub mod Linking
pub mod Rising
pub mod Moving
pub mod Naming
