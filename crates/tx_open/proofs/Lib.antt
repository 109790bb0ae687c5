pub mod Reading
pub mod Files
pub mod Loads
pub mod Nodes
mod Single
mod Complete
