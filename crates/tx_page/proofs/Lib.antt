pub mod Encoding
pub mod Firsts
pub mod Widths
pub mod Fitting
