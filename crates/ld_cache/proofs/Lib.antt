pub mod Tables
pub mod Whole
pub mod Forgetting
pub mod Budget
pub mod Graphs
