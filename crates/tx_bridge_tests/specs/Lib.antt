pub mod Boxes
pub mod BoxShells
