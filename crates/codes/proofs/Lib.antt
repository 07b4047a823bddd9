pub mod Laws
pub mod Modifiers
pub mod Six
pub mod Hid111
pub mod Illegal
pub mod Unique
