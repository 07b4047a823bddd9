pub mod Picture
pub mod Step
pub mod Events
pub mod Calls
pub mod Inside
pub mod Settles
