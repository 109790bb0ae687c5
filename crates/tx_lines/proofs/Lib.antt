pub mod Cells
pub mod Places
pub mod Filling
pub mod SomeFilling
