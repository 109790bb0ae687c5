pub mod Grids
pub mod Settings
pub mod Columns
pub mod Painting
