pub mod Slices
pub mod Narrow
pub mod Spanning
pub mod Shaping
pub mod Paging
pub mod Viewing
