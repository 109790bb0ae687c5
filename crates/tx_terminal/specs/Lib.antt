pub mod Inks
pub mod Characters
pub mod Terminals
pub mod Painting
pub mod Painter
pub mod Numbers
pub mod Emulators
