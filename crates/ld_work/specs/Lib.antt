pub mod Bounds
pub mod Filling
pub mod Fitting
pub mod Inside
pub mod Readers
pub mod Reads
pub mod ReadsRows
pub mod Right
