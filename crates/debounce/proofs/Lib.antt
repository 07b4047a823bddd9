pub mod Laws
pub mod EventLaws
pub mod Said
pub mod Runs
pub mod Settles
pub mod Unique
