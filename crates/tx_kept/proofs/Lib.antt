pub mod Applying
pub mod Along
pub mod Carried
pub mod Moving
pub mod Ordering
pub mod Found
pub mod Drained
