pub mod Counting
pub mod FileLookups
pub mod GoingOn
pub mod Pieces
pub mod Parts
