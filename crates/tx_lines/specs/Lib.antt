pub mod Cuts
pub mod FirstFit
