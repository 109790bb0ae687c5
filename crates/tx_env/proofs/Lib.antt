pub mod Finding
pub mod Maps
pub mod Undoing
pub mod Capping
pub mod Scopes
pub mod Overlays
pub mod Listing
