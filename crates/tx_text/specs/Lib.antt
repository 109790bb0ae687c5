pub mod Tables
pub mod Displays
pub mod Clusters
pub mod Places
pub mod Kept
