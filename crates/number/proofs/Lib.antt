pub mod Read
pub mod Unique
