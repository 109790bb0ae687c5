pub mod Tallies
pub mod ContentFits
pub mod Rows
pub mod TagRows
pub mod ContentNodes
pub mod Lines
pub mod Blocks
pub mod ContentCredits
