pub mod Names
pub mod Words
pub mod Seen
pub mod Plain
