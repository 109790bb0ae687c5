pub mod Reading
pub mod Pieces
pub mod Spreading
pub mod Table
pub mod Plain
pub mod AtCut
pub mod Own
pub mod Holding
