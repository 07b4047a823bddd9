pub mod Hid111
pub mod Due
pub mod Changes
pub mod Unique
pub mod Room
