pub mod Free
pub mod Pasts
pub mod Knowing
pub mod Leaving
pub mod Midways
