pub mod Cases
pub mod Line
