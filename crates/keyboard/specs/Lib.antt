pub mod Keyboard
pub mod Idle
pub mod Descriptor
pub mod Lent
pub mod Hid111
