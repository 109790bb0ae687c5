pub mod Pairs
pub mod Once
pub mod Paying
pub mod Placed
pub mod Listed
pub mod Taken
pub mod Carried
