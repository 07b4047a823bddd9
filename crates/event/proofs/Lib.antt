pub mod Unique
pub mod Back
