pub mod Pairs
pub mod Environments
pub mod Changes
pub mod ScopedView
