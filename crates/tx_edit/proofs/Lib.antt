pub mod Parents
pub mod Backwards
pub mod Turns
pub mod Following
