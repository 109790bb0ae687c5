pub mod Innermost
pub mod Lexing
pub mod Spotting
pub mod Metering
mod Bounding
