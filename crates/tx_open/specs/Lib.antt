pub mod Forms
pub mod Loads
pub mod Outcomes
pub mod Openings
