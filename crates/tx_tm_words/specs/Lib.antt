pub mod LabelFronts
pub mod Words
pub mod Runs
