pub mod Input
pub mod Inside
pub mod Reply
pub mod Text
