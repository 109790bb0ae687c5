pub mod Counts
pub mod Files
pub mod InMemory
pub mod Known
pub mod Outside
