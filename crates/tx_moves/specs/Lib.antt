pub mod Rows
pub mod RowStops
pub mod PageNumbers
