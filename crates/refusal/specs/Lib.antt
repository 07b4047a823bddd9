pub mod Number
pub mod Verdict
pub mod Said
