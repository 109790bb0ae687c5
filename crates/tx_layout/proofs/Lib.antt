mod Slices
pub mod Spans
pub mod Spreading
mod Widths
mod Marks
mod Once
mod Kept
mod Room
mod Paged
mod Telling
mod OneLines
