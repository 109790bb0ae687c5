pub mod Ends
pub mod Newest
