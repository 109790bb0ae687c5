pub mod Kids
pub mod Numbers
pub mod Parts
pub mod Wholes
pub mod Under
