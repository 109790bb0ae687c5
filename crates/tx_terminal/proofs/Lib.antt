pub mod Sequences
pub mod Writing
pub mod Inking
pub mod Rows
pub mod Pages
pub mod Repainting
pub mod Emulating
