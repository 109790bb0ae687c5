pub mod Turns
pub mod Paragraphs
pub mod Documents
