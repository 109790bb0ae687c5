pub mod Parts
pub mod Characters
pub mod Places
pub mod Hex
pub mod Items
