pub mod Labels
pub mod Stopping
pub mod WordRuns
