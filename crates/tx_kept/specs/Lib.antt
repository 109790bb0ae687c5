pub mod Entries
pub mod Carrying
pub mod Moves
pub mod Finding
