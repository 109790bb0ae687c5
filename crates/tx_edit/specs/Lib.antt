pub mod Keys
pub mod Followed
pub mod Stops
