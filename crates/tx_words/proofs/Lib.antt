mod Cuts
mod Parsed
mod Differing
mod Asking
mod Taken
mod TheCommand
mod Plain
pub mod Cutting
