pub mod Fits
pub mod Nodes
pub mod Fronts
pub mod Spots
pub mod Heads
pub mod PlainTags
pub mod Readers
pub mod Credits
