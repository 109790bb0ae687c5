pub mod Stretching
mod Below
pub mod Putting
mod Heads
mod Lining
pub mod Costing
mod AtPaths
mod DoneParts
mod Reusing
mod Renewed
mod ByParts
