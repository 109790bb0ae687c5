pub mod Screens
pub mod Keys
pub mod Endings
pub mod Frames
pub mod Codes
pub mod Runs
