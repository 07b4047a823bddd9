pub mod Cases
pub mod Says
pub mod Unique
