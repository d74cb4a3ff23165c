pub mod Finding
pub mod Learnt
pub mod Lower
pub mod Same
pub mod Trim
