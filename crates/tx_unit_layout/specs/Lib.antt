pub mod Codes
pub mod Views
pub mod Stretches
pub mod Rows
pub mod Moving
pub mod LaidAts
pub mod LaidUnits
