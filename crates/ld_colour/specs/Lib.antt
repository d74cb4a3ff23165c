pub mod Colour
pub mod Definition
pub mod Laws
pub mod Rgb
pub mod Table
