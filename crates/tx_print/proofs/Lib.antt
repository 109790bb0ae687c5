pub mod Adding
pub mod Ranges
pub mod Running
pub mod Wording
mod Deeper
