pub mod Chains
pub mod Blank
pub mod Contents
pub mod Runs
pub mod Storing
pub mod Returning
pub mod Others
pub mod Live
