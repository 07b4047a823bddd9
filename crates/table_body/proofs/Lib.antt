pub mod Powers
pub mod Unique
pub mod Whole
