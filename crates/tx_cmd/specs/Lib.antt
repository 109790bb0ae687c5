pub mod Words
pub mod Values
pub mod Commands
pub mod Pieces
pub mod Moved
pub mod Refusals
