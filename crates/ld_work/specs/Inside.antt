-- What the private types and steps of this crate mean; no other crate cites it.
pub mod Agreeing
pub mod Answering
pub mod Found
pub mod Gathering
pub mod Lent
pub mod Parsing
pub mod Reaching
pub mod Rounds
pub mod Staleness
pub mod Working
