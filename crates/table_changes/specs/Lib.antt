pub mod Same
pub mod Changes
pub mod Listed
pub mod Inside
