pub mod Found
pub mod Each
pub mod Versioning
pub mod WithoutCalls
pub mod Calling
pub mod Making
pub mod Counting
