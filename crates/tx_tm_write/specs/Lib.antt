pub mod Shapes
pub mod Canonical
pub mod Counts
pub mod Alone
