pub mod Inks
pub mod Clusters
pub mod Lines
pub mod Texts
