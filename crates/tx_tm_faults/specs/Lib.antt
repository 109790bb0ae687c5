pub mod Stands
pub mod Scans
pub mod Gauges
pub mod Bounds
