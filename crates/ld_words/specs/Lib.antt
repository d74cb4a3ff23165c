pub mod Ldraw
pub mod Shown
pub mod Words
