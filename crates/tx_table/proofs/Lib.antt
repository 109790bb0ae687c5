pub mod Widening
pub mod Padding
pub mod Gathering
pub mod Coloring
