mod Lawful
mod Rgb
mod Tables
