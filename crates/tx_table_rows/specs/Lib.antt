pub mod GridRows
pub mod RowLines
pub mod TableUnits
