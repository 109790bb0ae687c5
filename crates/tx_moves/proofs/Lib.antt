mod Numbering
mod Finding
pub mod Covering
pub mod Seeing
mod Beyond
mod Parted
mod OnLines
pub mod Stopping
pub mod Bounding
