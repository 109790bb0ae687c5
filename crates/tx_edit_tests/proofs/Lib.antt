pub mod Answered
pub mod Applied
