-- What the private functions of this crate do; no other crate cites it.
pub mod Shown
