pub mod Normal
pub mod Standing
pub mod Finding
